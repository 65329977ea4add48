-- How large the code of lines without a fault is.
use Rattle.std.proofs.Common.{◌≡◌, ◌<◌, ◌≤◌, ◌+◌, ℕ, Bool, true, false, cond, ◌&&◌, ◌||◌, eqb, List, [], ◌∷◌, ◌++◌, Option, Some}
use Rattle.std.proofs.Common.{None, is_some, length, refl, sym, ap, subst, ◌∙◌, append_assoc, arith, inl, inr}
use Rattle.std.proofs.lemmas.Bool.{cases_Bool}
use Rattle.std.proofs.lemmas.Bool.Decides.{nat_tests}
use Rattle.std.proofs.lemmas.List.{append-nil, length-append}
use Rattle.std.proofs.lemmas.List.Concat.{flat_map-append}
use Rattle.std.proofs.lemmas.List.Sums.{sum_by-append, sum_by-cons}
use Rattle.std.specs.List.{cons_option}
use Rattle.list_views.proofs.Options.{both_none}
use Rattle.code_forms.specs.declared.insn.Insn.{Insn}
use Rattle.class_base.specs.declared.handler.Handler.{Handler}
use Rattle.code_decode.specs.Encoding.{plain_text, code_of}
use Rattle.asm_lines.specs.declared.item.Item.{Item}
use Rattle.asm_lines.specs.declared.item.Item.TheVariants as items
use Rattle.class_asm.specs.declared.asm_codes.code.MethodCode.{MethodCode}
use Rattle.class_asm.specs.declared.asm_codes.pooled.PoolOperand.{PoolOperand}
use Rattle.class_asm.specs.asm_codes.Pooled.{Pooled}
use Rattle.class_asm.specs.asm_codes.Instructions.{Places, nowhere, insn_in}
use Rattle.class_asm.specs.asm_codes.Places.{size_at, end_from, places_of, placed, insns_from, item_entry, table_of}
use Rattle.class_asm.specs.asm_codes.LineFaults.{is_catch, entries_of, line_fault, first_fault_from, first_fault}
use Rattle.class_asm.specs.asm_codes.MethodCodes.{code_at, has_end, IsSized}
use Rattle.class_asm.proofs.FirstFaults.{sound, more_entries}
use Rattle.class_asm.proofs.Written.{item_size, placed_size, end_small, grows}

-- ---- bytes

pub code_long : (places : Places) (pc : ℕ) (lines : List Pooled) → pc + length (code_of (insns_from places pc lines)) ≡ end_from pc lines
code_long places pc [] = omega arith
code_long places pc (x ∷ xs) =
    let next = pc + size_at pc x in
    let here = placed pc (insn_in places x) in
    let e : length (code_of (insns_from places pc (x ∷ xs))) ≡ length (code_of here) + length (code_of (insns_from places next xs)) =
    ap length (flat_map-append (λ (y : ℕ × Insn). plain_text y.0 y.1) here (insns_from places next xs))
    ∙ length-append (code_of here) (code_of (insns_from places next xs)) in
    let s : length (code_of here) ≡ size_at pc x = placed_size pc (insn_in places x) ∙ item_size places pc x.need x.code.item in
    let rest = code_long places next xs in
    omega (arith, e, s, rest)

not_zero : (pc : ℕ) (b : Bool) → b ≡ true → (b && eqb pc 0) ≡ false → 0 < pc
not_zero pc true e h = grind (arith, nat_tests)
not_zero pc false e h = absurd cc

end_some : (places : Places) (before : List Pooled) (pc : ℕ) (lines : List Pooled) → first_fault_from places before pc lines ≡ None
    → has_end lines ≡ true → 0 < end_from pc lines
end_some places before pc [] h e = absurd cc
end_some places before pc (x ∷ xs) h e =
    let n = both_none (line_fault places before pc x) (first_fault_from places (before ++ x ∷ []) (pc + size_at pc x) xs) h in
    let s = sound places before pc x n.0 in
    elim (cases_Bool x.code.ends) [
      | inl ends ↦ let some = not_zero pc x.code.ends ends s.ended in omega (arith, some, grows pc (x ∷ xs))
      | inr goes_on ↦ end_some places (before ++ x ∷ []) (pc + size_at pc x) xs n.1 (ap (λ b. b || has_end xs) (sym goes_on) ∙ e)
    ]

-- ---- the table

one_counted : (before : List Pooled) (x : Pooled) (b : Bool) → is_catch x.code.item ≡ b
    → entries_of (before ++ x ∷ []) ≡ cond b (entries_of before + 1) (entries_of before)
one_counted before x true h = sum_by-append (λ y. cond (is_catch y.code.item) 1 0) before (x ∷ [])
    ∙ ap (λ (v : Bool). entries_of before + (0 + cond v 1 0)) h ∙ omega arith
one_counted before x false h = sum_by-append (λ y. cond (is_catch y.code.item) 1 0) before (x ∷ [])
    ∙ ap (λ (v : Bool). entries_of before + (0 + cond v 1 0)) h ∙ omega arith

entries_few : (places : Places) (before : List Pooled) (pc : ℕ) (lines : List Pooled) → entries_of before ≤ 65535
    → first_fault_from places before pc lines ≡ None → entries_of (before ++ lines) ≤ 65535
entries_few places before pc [] few h = subst (λ (ls : List Pooled). entries_of ls ≤ 65535) (sym (append-nil before)) few
entries_few places before pc (x ∷ xs) few h =
    let n = both_none (line_fault places before pc x) (first_fault_from places (before ++ x ∷ []) (pc + size_at pc x) xs) h in
    let s = sound places before pc x n.0 in
    let more : entries_of (before ++ x ∷ []) ≤ 65535 =
    subst (λ (k : ℕ). k ≤ 65535) (sym (one_counted before x (is_catch x.code.item) refl))
    (more_entries places (entries_of before) pc (size_at pc x) (is_some (insn_in nowhere x)) x.code.item few s.inside) in
    subst (λ (ls : List Pooled). entries_of ls ≤ 65535) (append_assoc before (x ∷ []) xs)
    (entries_few places (before ++ x ∷ []) (pc + size_at pc x) xs more n.1)

one_listed : (places : Places) (need : Option PoolOperand) (item : Item) (rest : List Handler) (n : ℕ) → length rest ≤ n
    → length (cons_option (item_entry places need item) rest) ≤ cond (is_catch item) 1 0 + n
one_listed places None (items.Catch c) rest n h = omega arith
one_listed places (Some need) (items.Catch c) rest n h = omega arith
one_listed places None (items.Insn operation) rest n h = omega arith
one_listed places (Some need) (items.Insn operation) rest n h = omega arith
one_listed places None items.Nothing rest n h = omega arith
one_listed places (Some need) items.Nothing rest n h = omega arith
one_listed places None (items.Attribute a) rest n h = omega arith
one_listed places (Some need) (items.Attribute a) rest n h = omega arith
one_listed places None items.End rest n h = omega arith
one_listed places (Some need) items.End rest n h = omega arith

table_few : (places : Places) (lines : List Pooled) → length (table_of places lines) ≤ entries_of lines
table_few places [] = omega arith
table_few places (x ∷ xs) =
    subst (λ (k : ℕ). length (table_of places (x ∷ xs)) ≤ k) (sym (sum_by-cons (λ (y : Pooled). cond (is_catch y.code.item) 1 0) x xs))
    (one_listed places x.need x.code.item (table_of places xs) (entries_of xs) (table_few places xs))

-- ---- both

pub sized : (lines : List Pooled) (code : MethodCode) → first_fault (places_of lines) lines ≡ None
    → code ≡ code_at (places_of lines) lines → IsSized (has_end lines) code
sized lines code h e =
    let places = places_of lines in
    let long = code_long places 0 lines in
    let small = end_small places [] 0 lines (omega arith) h in
    subst (IsSized (has_end lines)) (sym e) (record {
      some = λ ends. omega (arith, long, end_some places [] 0 lines h ends);
      few = omega (arith, long, small);
      table = omega (arith, table_few places lines, entries_few places [] 0 lines (omega arith) h);
    })
