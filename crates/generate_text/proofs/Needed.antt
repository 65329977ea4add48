-- What lines need of a pool that has it.
use Rattle.std.proofs.Common.{◌≡◌, ℕ, Bool, true, cond, ◌&&◌, List, [], ◌∷◌, ◌++◌, is_some, refl, ap, ◌∙◌}
use Rattle.std.specs.Prelude.{position}
use Rattle.std.specs.List.{list_all, flat_map, fold}
use Rattle.std.proofs.lemmas.List.Concat.{flat_map-append}
use Rattle.asm_lines.specs.declared.fault.AsmFault.{AsmFault}
use Rattle.asm_lines.specs.declared.fault.AsmFault.TheVariants.{OutOfRange}
use Rattle.asm_lines.specs.declared.item.Item.{Item}
use Rattle.asm_lines.specs.declared.item.Item.TheVariants as items
use Rattle.asm_lines.specs.declared.listing.CodeLine.{CodeLine}
use Rattle.class_asm.specs.asm_pool.Entries.{has_text, same}
use Rattle.class_asm.specs.asm_pool.Pools.{Need, Numbered, needed, need_faults, brought, with_first}
use Rattle.class_asm.specs.asm_pool.Needs.{insn_entries, catch_entries, attribute_entries, line_needs}
use Rattle.class_asm.specs.Classes.{item_attributes, code_attributes}
use Rattle.generate_text.proofs.Tests.{both, all_append}
use Rattle.generate_text.proofs.Places.{is_simple}

-- ---- lines without entries of the exception table and without attributes

no_caught : (line : ℕ) (item : Item) → is_simple item ≡ true → needed line (catch_entries item) ≡ []
no_caught line (items.Catch x) h = absurd cc
no_caught line item h = refl

no_attribute : (line : ℕ) (item : Item) → is_simple item ≡ true → needed line (attribute_entries item) ≡ []
no_attribute line (items.Attribute x) h = absurd cc
no_attribute line item h = refl

no_own : (pool : Numbered) (item : Item) → is_simple item ≡ true → item_attributes pool item ≡ []
no_own pool (items.Attribute x) h = absurd cc
no_own pool item h = refl

abbrev pub are_simple : List CodeLine → Bool
are_simple codes = list_all (λ (code : CodeLine). is_simple code.item) codes

none_of : {A B : Type 0} (f : A → List B) (test : A → Bool) → ((x : A) → test x ≡ true → f x ≡ []) → (xs : List A)
    → list_all test xs ≡ true → flat_map f xs ≡ []
none_of f test none [] h = refl
none_of f test none (x ∷ xs) h =
    let one = both (test x) (list_all test xs) h in
    λ i. none x one.0 i ++ none_of f test none xs one.1 i

pub none_caught : (codes : List CodeLine) → are_simple codes ≡ true → flat_map (line_needs catch_entries) codes ≡ []
none_caught = none_of (line_needs catch_entries) (λ code. is_simple code.item) (λ code h. no_caught code.line code.item h)

pub no_attributes : (codes : List CodeLine) → are_simple codes ≡ true → flat_map (line_needs attribute_entries) codes ≡ []
no_attributes = none_of (line_needs attribute_entries) (λ code. is_simple code.item) (λ code h. no_attribute code.line code.item h)

pub none_own : (pool : Numbered) (codes : List CodeLine) → are_simple codes ≡ true → code_attributes pool codes ≡ []
none_own pool = none_of (λ code. item_attributes pool code.item) (λ code. is_simple code.item) (λ code h. no_own pool code.item h)

-- ---- entries that are there

abbrev pub insn_needs : List CodeLine → List Need
insn_needs codes = flat_map (line_needs insn_entries) codes

abbrev pub is_there : List Need → Need → Bool
is_there firsts need = is_some (position (λ first. same need.0 first.0) firsts)

abbrev pub is_short : Need → Bool
is_short need = has_text need.0

-- the entries of a line are short and stand in the pool
abbrev pub is_pooled : List Need → CodeLine → Bool
is_pooled firsts code =
    list_all is_short (line_needs insn_entries code) && list_all (is_there firsts) (flat_map brought (line_needs insn_entries code))

pub kept : (firsts needs : List Need) → list_all (is_there firsts) needs ≡ true → fold with_first firsts needs ≡ firsts
kept firsts [] h = refl
kept firsts (need ∷ needs) h =
    let one = both (is_there firsts need) (list_all (is_there firsts) needs) h in
    ap (λ (v : Bool). fold with_first (cond v firsts (firsts ++ need ∷ [])) needs) one.0 ∙ kept firsts needs one.1

pub there : (firsts : List Need) (codes : List CodeLine) → list_all (is_pooled firsts) codes ≡ true
    → list_all (is_there firsts) (flat_map brought (insn_needs codes)) ≡ true
there firsts [] h = refl
there firsts (code ∷ codes) h =
    let one = both (is_pooled firsts code) (list_all (is_pooled firsts) codes) h in
    let here = both (list_all is_short (line_needs insn_entries code)) _ one.0 in
    ap (λ (needs : List Need). list_all (is_there firsts) needs) (flat_map-append brought (line_needs insn_entries code) (insn_needs codes))
    ∙ all_append (is_there firsts) (flat_map brought (line_needs insn_entries code)) (flat_map brought (insn_needs codes)) here.1
    (there firsts codes one.1)

short_faults : (needs : List Need) → list_all is_short needs ≡ true → flat_map need_faults needs ≡ []
short_faults = none_of need_faults is_short
    (λ need h. ap (λ (v : Bool). cond v (let none : List AsmFault = [] in none) (OutOfRange need.1 ∷ [])) h)

pub short : (firsts : List Need) (codes : List CodeLine) → list_all (is_pooled firsts) codes ≡ true
    → flat_map need_faults (insn_needs codes) ≡ []
short firsts [] h = refl
short firsts (code ∷ codes) h =
    let one = both (is_pooled firsts code) (list_all (is_pooled firsts) codes) h in
    let here = both (list_all is_short (line_needs insn_entries code)) _ one.0 in
    flat_map-append need_faults (line_needs insn_entries code) (insn_needs codes)
    ∙ (λ i. short_faults (line_needs insn_entries code) here.0 i ++ short firsts codes one.1 i)
