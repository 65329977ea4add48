-- The form of an opcode, test by test.
use Rattle.std.proofs.Common.{◌≡◌, true, false, Option, Some, None, refl, ◌∙◌}
use Rattle.std.specs.Prelude.{ℕ, option_map, is_some}
use Rattle.code_forms.specs.declared.insn.Insn.{Insn}
use Rattle.code_forms.specs.Opcodes.{first_of, find_by, with_byte, with_pair, with_jump}
use Rattle.code_decode.specs.Reading.{OperandLayout, Byte, Pair, Jump, single_layout, operand_layout}

skips : (make : (ℕ → Insn) → OperandLayout) (a : Option (ℕ → Insn)) (rest : Option OperandLayout) → is_some a ≡ false
    → first_of (option_map make a) rest ≡ rest
skips make None rest e = refl
skips make (Some x) rest e = absurd cc

takes : (make : (ℕ → Insn) → OperandLayout) (a : Option (ℕ → Insn)) (rest : Option OperandLayout) → is_some a ≡ true
    → first_of (option_map make a) rest ≡ option_map make a
takes make None rest e = absurd cc
takes make (Some x) rest e = refl

abbrev after_pair : ℕ → Option OperandLayout
after_pair op = first_of (option_map Jump (find_by with_jump op)) (single_layout op)

abbrev after_byte : ℕ → Option OperandLayout
after_byte op = first_of (option_map Pair (find_by with_pair op)) (after_pair op)

pub byte_layout : (op : ℕ) → is_some (find_by with_byte op) ≡ true → operand_layout op ≡ option_map Byte (find_by with_byte op)
byte_layout op e = takes Byte (find_by with_byte op) (after_byte op) e

pub pair_layout : (op : ℕ) → is_some (find_by with_byte op) ≡ false → is_some (find_by with_pair op) ≡ true
    → operand_layout op ≡ option_map Pair (find_by with_pair op)
pair_layout op b e = skips Byte (find_by with_byte op) (after_byte op) b ∙ takes Pair (find_by with_pair op) (after_pair op) e

pub jump_layout : (op : ℕ) → is_some (find_by with_byte op) ≡ false → is_some (find_by with_pair op) ≡ false
    → is_some (find_by with_jump op) ≡ true → operand_layout op ≡ option_map Jump (find_by with_jump op)
jump_layout op b p e = skips Byte (find_by with_byte op) (after_byte op) b ∙ skips Pair (find_by with_pair op) (after_pair op) p
    ∙ takes Jump (find_by with_jump op) (single_layout op) e

pub other_layout : (op : ℕ) → is_some (find_by with_byte op) ≡ false → is_some (find_by with_pair op) ≡ false
    → is_some (find_by with_jump op) ≡ false → operand_layout op ≡ single_layout op
other_layout op b p j = skips Byte (find_by with_byte op) (after_byte op) b ∙ skips Pair (find_by with_pair op) (after_pair op) p
    ∙ skips Jump (find_by with_jump op) (single_layout op) j
