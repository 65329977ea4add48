-- How many bytes instructions have.
use Rattle.std.proofs.Common.{◌≡◌, ℕ, suc, ◌+◌, ◌-◌, ◌*◌, ◌%◌, ◌^◌, ◌<◌, true, List, [], ◌∷◌, length, Option, Some, None, refl, sym}
use Rattle.std.proofs.Common.{ap, subst, ◌∙◌, arith, ◌&&◌}
use Rattle.std.specs.Option.{option_and_then}
use Rattle.std.specs.List.{list_all}
use Rattle.std.proofs.lemmas.Bool.Decides.{nat_tests}
use Rattle.code_forms.specs.declared.insn.Insn.{Insn}
use Rattle.code_forms.specs.Spellings.{Spelling, spelling, Plain, Byte, Pair, SignedByte, SignedPair, Jump, FarJump, Increment}
use Rattle.code_forms.specs.Spellings.{Table, Lookup, Interface, Array, WideLocal, WideIncrement}
use Rattle.code_decode.specs.Texts.{padding_of, zeros, spelling_text, FitsSpelling, Fits}
use Rattle.code_decode.specs.Encoding.{plain_text}
use Rattle.code_decode.proofs.Lengths.{table_len, lookup_len, few_targets}
use Rattle.asm_lines.specs.declared.number.Number.{Number}
use Rattle.asm_lines.specs.declared.operation.Operation.{Operation}
use Rattle.asm_lines.specs.declared.operation.Operation.TheVariants.{Plain as PlainOp, Local, Bipush, Sipush, LoadInt, LoadString}
use Rattle.asm_lines.specs.declared.operation.Operation.TheVariants.{Member, Class, Newarray, Iinc, Jump as JumpOp, GotoW}
use Rattle.asm_lines.specs.declared.operation.Operation.TheVariants.{Tableswitch, Lookupswitch}
use Rattle.asm_lines.specs.declared.item.Item.{Item}
use Rattle.asm_lines.specs.declared.item.Item.TheVariants as items
use Rattle.class_asm.specs.declared.asm_codes.pooled.PoolOperand.{PoolOperand}
use Rattle.class_asm.specs.asm_codes.Pooled.{Pooled}
use Rattle.class_asm.specs.asm_codes.Instructions.{nowhere, insn_of, item_insn, insn_in}
use Rattle.class_asm.specs.asm_codes.Places.{FitsFirst, IsNear}
use Rattle.class_asm.specs.asm_codes.LineFaults.{is_within, is_far, reaches}
use Rattle.class_asm.proofs.Operands.{fits}

mod_again : (pc : ℕ) → pc % 4 % 4 ≡ pc % 4
mod_again pc = omega arith

padding_again : (pc : ℕ) → padding_of (pc % 4) ≡ padding_of pc
padding_again pc = ap (λ (n : ℕ). 3 - n) (mod_again pc)

-- Places four bytes apart give the same size.
turned : (pc : ℕ) (s : Spelling)
    → length (spelling_text (pc % 4) (zeros (padding_of (pc % 4))) s) ≡ length (spelling_text pc (zeros (padding_of pc)) s)
turned pc (Table op default low targets) = ap suc (
    table_len (pc % 4) default low targets ∙ ap (λ (n : ℕ). n + 12 + 4 * length targets) (padding_again pc)
    ∙ sym (table_len pc default low targets))
turned pc (Lookup op default cases) = ap suc (
    lookup_len (pc % 4) default cases ∙ ap (λ (n : ℕ). n + 8 + 8 * length cases) (padding_again pc) ∙ sym (lookup_len pc default cases))
turned pc (Plain op) = refl
turned pc (Byte op n) = refl
turned pc (Pair op n) = refl
turned pc (SignedByte op v) = refl
turned pc (SignedPair op v) = refl
turned pc (Jump op target) = refl
turned pc (FarJump op target) = refl
turned pc (Increment op n v) = refl
turned pc (Interface op n count) = refl
turned pc (Array op code) = refl
turned pc (WideLocal op n) = refl
turned pc (WideIncrement op n v) = refl

pub size_turned : (pc n : ℕ) (i : Insn) → n ≡ length (plain_text (pc % 4) i) → n ≡ length (plain_text pc i)
size_turned pc n i h = h ∙ turned pc (spelling i)

few : (pc : ℕ) (s : Spelling) → FitsSpelling pc s → length (spelling_text pc (zeros (padding_of pc)) s) < 2 ^ 40
few pc (Table op default low targets) h = omega (arith, table_len pc default low targets, few_targets pc default low targets h)
few pc (Lookup op default cases) h = omega (arith, lookup_len pc default cases, h.few)
few pc (Plain op) h = omega arith
few pc (Byte op n) h = omega arith
few pc (Pair op n) h = omega arith
few pc (SignedByte op v) h = omega arith
few pc (SignedPair op v) h = omega arith
few pc (Jump op target) h = omega arith
few pc (FarJump op target) h = omega arith
few pc (Increment op n v) h = omega arith
few pc (Interface op n count) h = omega arith
few pc (Array op code) h = omega arith
few pc (WideLocal op n) h = omega arith
few pc (WideIncrement op n v) h = omega arith

pub size_small : (pc n : ℕ) (i : Insn) → Fits pc i → n ≡ length (plain_text pc i) → n < 2 ^ 40
size_small pc n i h e = subst (λ (k : ℕ). k < 2 ^ 40) (sym e) (few pc (spelling i) h)

-- ---- an instruction without targets has bytes at the first places

within_first : (limit pc : ℕ) → 2 < limit → pc < 4 → is_within limit pc 0 ≡ true
within_first limit pc l h = grind (arith, nat_tests)

all_first : {A : Type 0} (f : A → List ℕ) (pc : ℕ) → pc < 4 → (xs : List A) → list_all (λ x. is_far nowhere pc (f x)) xs ≡ true
all_first f pc h [] = refl
all_first f pc h (x ∷ xs) = ap (λ b. b && list_all (λ y. is_far nowhere pc (f y)) xs) (within_first 2147483647 pc (omega arith) h)
    ∙ all_first f pc h xs

reaches_first : (pc : ℕ) (operation : Operation) → pc < 4 → reaches nowhere pc operation ≡ true
reaches_first pc (JumpOp op label) h = within_first 32767 pc (omega arith) h
reaches_first pc (GotoW label) h = within_first 2147483647 pc (omega arith) h
reaches_first pc (Tableswitch low default labels) h = ap (λ b. b && list_all (is_far nowhere pc) labels)
    (within_first 2147483647 pc (omega arith) h) ∙ all_first (λ (l : List ℕ). l) pc h labels
reaches_first pc (Lookupswitch default cases) h = ap (λ b. b && list_all (λ (c : Number × List ℕ). is_far nowhere pc c.1) cases)
    (within_first 2147483647 pc (omega arith) h) ∙ all_first (λ (c : Number × List ℕ). c.1) pc h cases
reaches_first pc (PlainOp op) h = refl
reaches_first pc (Local op n) h = refl
reaches_first pc (Bipush n) h = refl
reaches_first pc (Sipush n) h = refl
reaches_first pc (LoadInt op n) h = refl
reaches_first pc (LoadString op word) h = refl
reaches_first pc (Member op class name desc) h = refl
reaches_first pc (Class op class) h = refl
reaches_first pc (Newarray code) h = refl
reaches_first pc (Iinc n m) h = refl

pub near_nowhere : IsNear nowhere
near_nowhere label = omega arith

of_operation : (need : PoolOperand) (operation : Operation) (o : Option Insn) → insn_of nowhere need operation ≡ o → FitsFirst o
of_operation need operation None h = tt
of_operation need operation (Some i) h = λ pc l. fits nowhere need operation pc i near_nowhere (reaches_first pc operation l) h

of_item : (item : Item) (need : PoolOperand) → FitsFirst (item_insn nowhere item need)
of_item (items.Insn operation) need = of_operation need operation (insn_of nowhere need operation) refl
of_item items.Nothing need = tt
of_item (items.Catch c) need = tt
of_item (items.Attribute a) need = tt
of_item items.End need = tt

of_need : (item : Item) (need : Option PoolOperand) (o : Option Insn) → o ≡ option_and_then (item_insn nowhere item) need → FitsFirst o
of_need item None o h = subst FitsFirst (sym h) tt
of_need item (Some n) o h = subst FitsFirst (sym h) (of_item item n)

pub fits_first : (x : Pooled) (o : Option Insn) → o ≡ insn_in nowhere x → FitsFirst o
fits_first x o h = of_need x.code.item x.need o h
