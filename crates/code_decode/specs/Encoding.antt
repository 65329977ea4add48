-- The bytes of a list of instructions, and which lists have bytes.
-- JVM specification, section 4.7.3 (the code array) and section 4.9.1 (which instructions may stand in it).
use Rattle.std.specs.Prelude.{ℕ, ◌+◌, ◌<◌, ◌^◌, ◌≡◌, List, [], ◌∷◌, length, None}
use Rattle.std.specs.List.{flat_map, AllByRecursion}
use Rattle.code_forms.specs.declared.insn.Insn.{Insn}
use Rattle.code_decode.specs.Texts.{padding_of, zeros, text, Fits}
use Rattle.code_forms.specs.Marks.{starts, stands}
use Rattle.code_decode.specs.Codes.{first_stray}

-- the bytes of an instruction at a place, with zero bytes as padding
abbrev pub plain_text : ℕ → Insn → List ℕ
plain_text pc insn = text pc (zeros (padding_of pc)) insn

-- the bytes of a code: those of its instructions, one behind the other
abbrev pub code_of : List (ℕ × Insn) → List ℕ
code_of insns = flat_map (λ x. plain_text x.0 x.1) insns

-- the instructions stand one behind the other, the first at a given place, with no byte between them
abbrev pub ArePlaced : ℕ → List (ℕ × Insn) → Type 0
ArePlaced pc [] = Unit {0}
ArePlaced pc (x ∷ xs) = (x.0 ≡ pc) × ArePlaced (pc + length (plain_text pc x.1)) xs

-- The list is that of a code: its places follow from the lengths, its bytes are at most 65,535, every number and distance
-- fits its field, the rules on switches and operands hold, and each target is the place of an instruction.
pub record IsCode (insns : List (ℕ × Insn)) : Type 0 where
  pub placed : ArePlaced 0 insns
  pub small : length (code_of insns) < 2 ^ 16
  pub fits : AllByRecursion (λ x. Fits x.0 x.1) insns
  pub targets : first_stray (stands (starts insns)) insns ≡ None
