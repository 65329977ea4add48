-- The instruction that an operation gives is the one of its line.
use Rattle.std.proofs.Common.{◌≡◌, ℕ, ◌^◌, ℤ, Bool, true, false, cond, ◌&&◌, eqb, eqb-true, List, [], ◌∷◌, length, map, Option}
use Rattle.std.proofs.Common.{Some, None, is_some, refl, sym, ap, subst, ◌∙◌, pos, negsuc, inl, inr}
use Rattle.std.proofs.lemmas.Bool.{and_parts}
use Rattle.std.specs.Prelude.{option_map, nat_lt, nat_le}
use Rattle.std.specs.Option.{option_and_then, option_map_or}
use Rattle.std.specs.List.{list_all}
use Rattle.list_views.proofs.Options.{map_some, cond_guarded, cond_either}
use Rattle.code_forms.specs.declared.insn.Case.{Case}
use Rattle.code_forms.specs.declared.insn.Insn.{Insn}
use Rattle.code_forms.specs.declared.insn.Insn.TheVariants as insns
use Rattle.code_forms.specs.Spellings as spellings
use Rattle.code_forms.specs.Spellings.{spelling}
use Rattle.code_forms.specs.Cases.{is_rising}
use Rattle.code_forms.specs.Opcodes.{opcode_of, find, plain_low, plain_high, plain, with_byte, with_pair, with_jump, wide_local, first_of}
use Rattle.code_decode.proofs.Takes.{some_is}
use Rattle.asm_lines.specs.declared.number.Number.{Number}
use Rattle.asm_lines.specs.declared.operation.Operation.{Operation}
use Rattle.asm_lines.specs.declared.operation.Operation.TheVariants.{Plain, Local, Bipush, Sipush, LoadInt, LoadString, Member}
use Rattle.asm_lines.specs.declared.operation.Operation.TheVariants.{Class, Newarray, Iinc, Jump, GotoW, Tableswitch, Lookupswitch}
use Rattle.asm_lines.specs.Numbers.{signed_of, pair_of, int_of}
use Rattle.asm_lines.proofs.NumberFits.{chained}
use Rattle.class_asm.specs.declared.asm_codes.pooled.PoolOperand.{PoolOperand}
use Rattle.class_asm.specs.asm_codes.Instructions.{Places, target, between, byte_value, pair_value, with_operand, local_insn, entry_insn}
use Rattle.class_asm.specs.asm_codes.Instructions.{interface_insn, array_insn, increment, highest_fits, table_of_low, table_insn, make_case}
use Rattle.class_asm.specs.asm_codes.Instructions.{cases_of, lookup_of, lookup_insn, insn_of}
use Rattle.class_asm.specs.asm_codes.LineFaults.{operation_labels, knows}
use Rattle.class_asm.specs.asm_codes.Said.{InTurn, IsCase, IsInsn}
use Rattle.class_asm.proofs.Operands.{plain_spelling, byte_rows, pair_rows, jump_rows, local_rows, operand}

-- ---- labels

placed_at : (o : Option ℕ) → is_some o ≡ true → o ≡ Some (option_map_or (λ (place : ℕ). place) o 0)
placed_at None h = absurd cc
placed_at (Some place) h = refl

known : (places : Places) (label : List ℕ) → is_some (places label) ≡ true → places label ≡ Some (target places label)
known places label h = placed_at (places label) h

all_known : (places : Places) (labels : List (List ℕ)) → knows places labels ≡ true
    → map places labels ≡ map (λ (n : ℕ). Some n) (map (target places) labels)
all_known places [] h = refl
all_known places (label ∷ labels) h =
    let k = and_parts (is_some (places label)) (knows places labels) h in
    ap (λ (o : Option ℕ). o ∷ map places labels) (known places label k.0)
    ∙ ap (λ (os : List (Option ℕ)). Some (target places label) ∷ os) (all_known places labels k.1)

pub first_known : (places : Places) (label : List ℕ) (labels : List (List ℕ)) → knows places (label ∷ labels) ≡ true
    → places label ≡ Some (target places label)
first_known places label labels h = known places label (and_parts (is_some (places label)) (knows places labels) h).0

pub others_known : (places : Places) (label : List ℕ) (labels : List (List ℕ)) → knows places (label ∷ labels) ≡ true
    → knows places labels ≡ true
others_known places label labels h = (and_parts (is_some (places label)) (knows places labels) h).1

-- ---- instructions without operands

found_op : (is : List Insn) (op : ℕ) (i : Insn) → find is op ≡ Some i → op ≡ opcode_of (spelling i)
found_op [] op i e = absurd cc
found_op (j ∷ js) op i e =
    elim (cond_either (eqb op (opcode_of (spelling j))) (Some j) (find js op) (Some i) e) [
      | inl p ↦ eqb-true op (opcode_of (spelling j)) p.0 ∙ ap (λ (k : Insn). opcode_of (spelling k)) (some_is j i p.1)
      | inr p ↦ found_op js op i p.1
    ]

either_op : (a b : Option Insn) (op : ℕ) (i : Insn) → find plain_low op ≡ a → find plain_high op ≡ b → first_of a b ≡ Some i
    → op ≡ opcode_of (spelling i)
either_op (Some j) b op i ea eb e = found_op plain_low op i (ea ∙ e)
either_op None b op i ea eb e = found_op plain_high op i (eb ∙ e)

plain_said : (op : ℕ) (i : Insn) → plain op ≡ Some i → spelling i ≡ spellings.Plain op
plain_said op i h = plain_spelling op i h
    ∙ ap (λ (k : ℕ). spellings.Plain k) (sym (either_op (find plain_low op) (find plain_high op) op i refl refl h))

-- ---- instructions with a number

local_by : (b : Bool) (op n : ℕ) (i : Insn) → cond b (with_operand with_byte op n) (with_operand wide_local op n) ≡ Some i
    → spelling i ≡ cond b (spellings.Byte op n) (spellings.WideLocal op n)
local_by true op n i h = operand spellings.Byte with_byte op n i byte_rows h
local_by false op n i h = operand spellings.WideLocal wide_local op n i local_rows h

entry_said : (op n : ℕ) (i : Insn) → entry_insn op n ≡ Some i → spelling i ≡ spellings.Pair op n
entry_said op n i h = operand spellings.Pair with_pair op n i pair_rows (cond_guarded (nat_lt n 65536) (with_operand with_pair op n) i h).1

load_by : (b : Bool) (n : ℕ) (i : Insn) → cond b (Some (insns.Ldc n)) (entry_insn 19 n) ≡ Some i
    → spelling i ≡ cond b (spellings.Byte 18 n) (spellings.Pair 19 n)
load_by true n i h = ap spelling (sym (some_is (insns.Ldc n) i h))
load_by false n i h = entry_said 19 n i h

member_by : (b : Bool) (op n words : ℕ) (i : Insn) → cond b (interface_insn n words) (entry_insn op n) ≡ Some i
    → spelling i ≡ cond b (spellings.Interface 185 n words) (spellings.Pair op n)
member_by true op n words i h = ap spelling
    (sym (some_is (insns.Invokeinterface n words) i
    (cond_guarded (nat_lt n 65536 && nat_lt words 256) (Some (insns.Invokeinterface n words)) i h).1))
member_by false op n words i h = entry_said op n i h

array_said : (code : ℕ) (i : Insn) → array_insn code ≡ Some i → spelling i ≡ spellings.Array 188 code
array_said code i h = ap spelling
    (sym (some_is (insns.Newarray code) i (cond_guarded (nat_le 4 code && nat_le code 11) (Some (insns.Newarray code)) i h).1))

byte_is : (n : Number) (v : ℤ) → byte_value n ≡ Some v → signed_of n ≡ Some v
byte_is n v h =
    let c = chained (λ x. cond (between (negsuc 127) (pos 127) x) (Some x) None) (signed_of n) v h in
    c.1 ∙ (cond_guarded (between (negsuc 127) (pos 127) c.0) (Some c.0) v c.2).1

pair_is : (n : Number) (v : ℤ) → pair_value n ≡ Some v → signed_of n ≡ Some v
pair_is n v h =
    let c = chained (λ x. cond (between (negsuc 32767) (pos 32767) x) (Some x) None) (signed_of n) v h in
    c.1 ∙ (cond_guarded (between (negsuc 32767) (pos 32767) c.0) (Some c.0) v c.2).1

increment_by : (b : Bool) (n : ℕ) (v : ℤ)
    → spelling (cond b (insns.Iinc n v) (insns.WideIinc n v)) ≡ cond b (spellings.Increment 132 n v) (spellings.WideIncrement 132 n v)
increment_by true n v = refl
increment_by false n v = refl

-- ---- switches

cases_said : (places : Places) (cs : List (Number × List ℕ)) (cases : List Case)
    → knows places (map (λ (c : Number × List ℕ). c.1) cs) ≡ true → cases_of places cs ≡ Some cases → InTurn (IsCase places) cs cases
cases_said places [] cases k h = subst (InTurn (IsCase places) []) (some_is [] cases h) tt
cases_said places (c ∷ cs) cases k h =
    let key = chained (λ key. option_map (λ rest. make_case key (target places c.1) ∷ rest) (cases_of places cs)) (int_of c.0) cases h in
    let m = map_some (λ (rest : List Case). make_case key.0 (target places c.1) ∷ rest) (cases_of places cs) cases key.2 in
    let labels = map (λ (d : Number × List ℕ). d.1) cs in
    subst (InTurn (IsCase places) (c ∷ cs)) m.1.1
    ((key.1, first_known places c.1 labels k), cases_said places cs m.0 (others_known places c.1 labels k) m.1.0)

table_said : (places : Places) (need : PoolOperand) (low : Number) (default : List ℕ) (labels : List (List ℕ)) (i : Insn)
    → knows places (default ∷ labels) ≡ true → table_insn places low default labels ≡ Some i
    → IsInsn places need (Tableswitch low default labels) (spelling i)
table_said places need low default labels i k h =
    let c = chained (table_of_low places default labels) (int_of low) i h in
    let switch = insns.Tableswitch (target places default) c.0 (map (target places) labels) in
    let g = cond_guarded (highest_fits c.0 (length labels)) (Some switch) i c.2 in (
      target places default,
      c.0,
      map (target places) labels,
      first_known places default labels k,
      c.1,
      all_known places labels
          (others_known places default labels k),
      ap spelling (sym (some_is switch i g.1)),
    )

lookup_said : (places : Places) (need : PoolOperand) (default : List ℕ) (cs : List (Number × List ℕ)) (i : Insn)
    → knows places (default ∷ map (λ (c : Number × List ℕ). c.1) cs) ≡ true → lookup_insn places default cs ≡ Some i
    → IsInsn places need (Lookupswitch default cs) (spelling i)
lookup_said places need default cs i k h =
    let labels = map (λ (c : Number × List ℕ). c.1) cs in
    let c = chained (lookup_of (target places default)) (cases_of places cs) i h in
    let switch = insns.Lookupswitch (target places default) c.0 in
    let g = cond_guarded (nat_lt (length c.0) (2 ^ 31) && is_rising c.0) (Some switch) i c.2 in (
      target places default,
      c.0,
      first_known places default labels k,
      cases_said places cs c.0
          (others_known places default labels k) c.1,
      ap spelling (sym (some_is switch i g.1)),
    )

-- ---- all

pub insn_said : (places : Places) (need : PoolOperand) (operation : Operation) (i : Insn)
    → knows places (operation_labels operation) ≡ true → insn_of places need operation ≡ Some i → IsInsn places need operation (spelling i)
insn_said places need (Plain op) i k h = plain_said op i h
insn_said places need (Local op n) i k h = let c = chained (local_insn op) (pair_of n) i h in
    (c.0, c.1, local_by (nat_lt c.0 256) op c.0 i c.2)
insn_said places need (Bipush n) i k h = let m = map_some (λ (v : ℤ). insns.Bipush v) (byte_value n) i h in
    (m.0, byte_is n m.0 m.1.0, ap spelling (sym m.1.1))
insn_said places need (Sipush n) i k h = let m = map_some (λ (v : ℤ). insns.Sipush v) (pair_value n) i h in
    (m.0, pair_is n m.0 m.1.0, ap spelling (sym m.1.1))
insn_said places need (LoadInt op n) i k h = load_by (eqb op 18 && nat_lt need.entry 256) need.entry i h
insn_said places need (LoadString op text) i k h = load_by (eqb op 18 && nat_lt need.entry 256) need.entry i h
insn_said places need (Member op class name desc) i k h = member_by (eqb op 185) op need.entry need.words i h
insn_said places need (Class op class) i k h = entry_said op need.entry i h
insn_said places need (Newarray code) i k h = array_said code i h
insn_said places need (Iinc n m) i k h =
    let c = chained (λ local. option_map (λ v. increment local v) (pair_value m)) (pair_of n) i h in
    let d = map_some (λ (v : ℤ). increment c.0 v) (pair_value m) i c.2 in (
      c.0,
      d.0,
      c.1,
      pair_is m d.0 d.1.0,
      ap spelling (sym d.1.1)
          ∙ increment_by (nat_lt c.0 256 && between (negsuc 127) (pos 127) d.0) c.0 d.0,
    )
insn_said places need (Jump op label) i k h = (
  target places label,
  first_known places label [] k,
  operand spellings.Jump with_jump
      op (target places label) i jump_rows h,
)
insn_said places need (GotoW label) i k h =
    (target places label, first_known places label [] k, ap spelling (sym (some_is (insns.GotoW (target places label)) i h)))
insn_said places need (Tableswitch low default labels) i k h = table_said places need low default labels i k h
insn_said places need (Lookupswitch default cs) i k h = lookup_said places need default cs i k h
