-- The steps of a switch, key by key, and of an operator, case by case.
use Rattle.std.proofs.Common.{◌≡◌, ◌∙◌, ◌<◌, ◌≤◌, ◌+◌, ℕ, ℤ, pos, ◌+ℤ◌, ◌-ℤ◌, List, [], ◌∷◌, ◌++◌, length, drop, get_or, Option}
use Rattle.std.proofs.Common.{Some, None, append_assoc, refl, sym, ap, arith}
use Rattle.std.specs.List.{filter_map, cons_option}
use Rattle.std.specs.Option.{option_to_list}
use Rattle.std.proofs.lemmas.Int.{ints}
use Rattle.std.proofs.lemmas.List.{drop_more, drop_all}
use Rattle.std.proofs.lemmas.List.Elements.{filter_map-append}
use Rattle.jvm_step.specs.code_forms.declared.insn.Case.{Case}
use Rattle.abs_cells.specs.lin_core.Intervals.{Bounds, interval_of}
use Rattle.abs_ints.specs.IntIntervals.{all_ints, just}
use Rattle.abs_turns.specs.Switches.{table_keys, lookup_keys, parts_from, parts_of}

put_end : {X : Type 0} (o : Option X) (rest : List X) → option_to_list o ++ rest ≡ cons_option o rest
put_end None rest = refl
put_end (Some x) rest = refl

-- two steps that may be there
pub two_put : {X : Type 0} (a b : Option X) (old middle new : List X) → middle ≡ old ++ option_to_list a
    → new ≡ middle ++ option_to_list b → new ≡ old ++ cons_option a (cons_option b [])
two_put {X} a b old middle new e f =
    f ∙ ap (λ xs. xs ++ option_to_list b) e ∙ append_assoc old (option_to_list a) (option_to_list b)
    ∙ ap (λ xs. old ++ (option_to_list a ++ xs)) (list_end b) ∙ ap (λ xs. old ++ xs) (put_end a (cons_option b []))
  where
    list_end : (o : Option X) → option_to_list o ≡ cons_option o []
    list_end None = refl
    list_end (Some x) = refl

-- one step that may be there
pub one_put : {X : Type 0} (a : Option X) (old new : List X) → new ≡ old ++ option_to_list a → new ≡ old ++ cons_option a []
one_put None old new e = e
one_put (Some x) old new e = e

-- a key's steps, and those of the keys behind it
pub key_more : {X : Type 0} (f : Option Bounds × ℕ → Option X) (default to : ℕ) (low key : ℤ) (keys : List (ℤ × ℕ))
    (old new whole : List X) → new ≡ old ++ filter_map f ((interval_of low (key -ℤ pos 1), default) ∷ (Some (just key), to) ∷ [])
    → old ++ filter_map f (parts_from low default ((key, to) ∷ keys)) ≡ whole
    → new ++ filter_map f (parts_from (key +ℤ pos 1) default keys) ≡ whole
key_more f default to low key keys old new whole e w =
    let two = (interval_of low (key -ℤ pos 1), default) ∷ (Some (just key), to) ∷ [] in
    let rest = parts_from (key +ℤ pos 1) default keys in
    ap (λ xs. xs ++ filter_map f rest) e ∙ append_assoc old (filter_map f two) (filter_map f rest)
    ∙ ap (λ xs. old ++ xs) (sym (filter_map-append f two rest)) ∙ w

list_end : {X : Type 0} (o : Option X) → option_to_list o ≡ cons_option o []
list_end None = refl
list_end (Some x) = refl

-- ---- listed keys

pub lookup_more : {X : Type 0} (f : Option Bounds × ℕ → Option X) (default : ℕ) (low after key : ℤ) (cases : List Case) (k : ℕ)
    (d : Case) (old new whole : List X) → k < length cases → key ≡ (get_or cases k d).key → after ≡ key +ℤ pos 1
    → new ≡ old ++ filter_map f ((interval_of low (key -ℤ pos 1), default) ∷ (Some (just key), (get_or cases k d).target) ∷ [])
    → old ++ filter_map f (parts_from low default (lookup_keys (drop k cases))) ≡ whole
    → new ++ filter_map f (parts_from after default (lookup_keys (drop (k + 1) cases))) ≡ whole
lookup_more f default low after key cases k d old new whole l is a e w =
    let c = get_or cases k d in
    let rest = lookup_keys (drop (k + 1) cases) in
    ap (λ (n : ℤ). new ++ filter_map f (parts_from n default rest)) (a ∙ ap (λ (n : ℤ). n +ℤ pos 1) is)
    ∙ key_more f default c.target low c.key rest old new whole
    (e ∙ ap (λ (n : ℤ). old ++ filter_map f ((interval_of low (n -ℤ pos 1), default) ∷ (Some (just n), c.target) ∷ [])) is)
    (ap (λ (cs : List Case). old ++ filter_map f (parts_from low default (lookup_keys cs))) (sym (drop_more cases k d l)) ∙ w)

pub lookup_end : {X : Type 0} (f : Option Bounds × ℕ → Option X) (default : ℕ) (low high : ℤ) (cases : List Case) (k : ℕ)
    (old new whole : List X) → length cases ≤ k → high ≡ all_ints.hi
    → new ≡ old ++ option_to_list (f (interval_of low high, default))
    → old ++ filter_map f (parts_from low default (lookup_keys (drop k cases))) ≡ whole → new ≡ whole
lookup_end f default low high cases k old new whole l h e w =
    e ∙ ap (λ (n : ℤ). old ++ option_to_list (f (interval_of low n, default))) h
    ∙ ap (λ xs. old ++ xs) (list_end (f (interval_of low all_ints.hi, default)))
    ∙ ap (λ (cs : List Case). old ++ filter_map f (parts_from low default (lookup_keys cs))) (sym (drop_all k cases l)) ∙ w

-- ---- a table of keys

pub table_begin : {X : Type 0} (f : Option Bounds × ℕ → Option X) (default : ℕ) (first low : ℤ) (targets : List ℕ) (old : List X)
    → old ≡ [] → low ≡ all_ints.lo → old ++ filter_map f (parts_from low default (table_keys (first +ℤ pos 0) (drop 0 targets)))
    ≡ filter_map f (parts_of default (table_keys first targets))
table_begin f default first low targets old o l =
    let same : first +ℤ pos 0 ≡ first = omega (arith, ints) in
    ap (λ xs. xs ++ filter_map f (parts_from low default (table_keys (first +ℤ pos 0) targets))) o
    ∙ ap (λ (n : ℤ). filter_map f (parts_from n default (table_keys (first +ℤ pos 0) targets))) l
    ∙ ap (λ (n : ℤ). filter_map f (parts_from all_ints.lo default (table_keys n targets))) same

pub table_more : {X : Type 0} (f : Option Bounds × ℕ → Option X) (default : ℕ) (first low after key : ℤ) (targets : List ℕ)
    (i d : ℕ) (old new whole : List X) → i < length targets → key ≡ first +ℤ pos i → after ≡ key +ℤ pos 1
    → new ≡ old ++ filter_map f ((interval_of low (key -ℤ pos 1), default) ∷ (Some (just key), get_or targets i d) ∷ [])
    → old ++ filter_map f (parts_from low default (table_keys (first +ℤ pos i) (drop i targets))) ≡ whole
    → new ++ filter_map f (parts_from after default (table_keys (first +ℤ pos (i + 1)) (drop (i + 1) targets))) ≡ whole
table_more f default first low after key targets i d old new whole l is a e w =
    let to = get_or targets i d in
    let here = first +ℤ pos i in
    let next : first +ℤ pos (i + 1) ≡ (first +ℤ pos i) +ℤ pos 1 = omega (arith, ints) in
    let rest = table_keys (here +ℤ pos 1) (drop (i + 1) targets) in
    ap (λ (n : ℤ). new ++ filter_map f (parts_from n default (table_keys (first +ℤ pos (i + 1)) (drop (i + 1) targets))))
    (a ∙ ap (λ (n : ℤ). n +ℤ pos 1) is)
    ∙ ap (λ (n : ℤ). new ++ filter_map f (parts_from (here +ℤ pos 1) default (table_keys n (drop (i + 1) targets)))) next
    ∙ key_more f default to low here rest old new whole
    (e ∙ ap (λ (n : ℤ). old ++ filter_map f ((interval_of low (n -ℤ pos 1), default) ∷ (Some (just n), to) ∷ [])) is)
    (ap (λ (ts : List ℕ). old ++ filter_map f (parts_from low default (table_keys here ts))) (sym (drop_more targets i d l)) ∙ w)

pub table_end : {X : Type 0} (f : Option Bounds × ℕ → Option X) (default : ℕ) (first low high : ℤ) (targets : List ℕ) (i : ℕ)
    (old new whole : List X) → length targets ≤ i → high ≡ all_ints.hi
    → new ≡ old ++ option_to_list (f (interval_of low high, default))
    → old ++ filter_map f (parts_from low default (table_keys (first +ℤ pos i) (drop i targets))) ≡ whole → new ≡ whole
table_end f default first low high targets i old new whole l h e w =
    e ∙ ap (λ (n : ℤ). old ++ option_to_list (f (interval_of low n, default))) h
    ∙ ap (λ xs. old ++ xs) (list_end (f (interval_of low all_ints.hi, default)))
    ∙ ap (λ (ts : List ℕ). old ++ filter_map f (parts_from low default (table_keys (first +ℤ pos i) ts)))
    (sym (drop_all i targets l)) ∙ w

-- ---- the steps of cases

pub case_more : {X Y : Type 0} (f : X → Option Y) (old new : List Y) (cases rest : List X) (case : X) (found : Option Y)
    (whole : List Y) → cases ≡ case ∷ rest → found ≡ f case → new ≡ old ++ option_to_list found → old ++ filter_map f cases ≡ whole
    → new ++ filter_map f rest ≡ whole
case_more f old new cases rest case found whole c e n w =
    ap (λ xs. xs ++ filter_map f rest) n ∙ append_assoc old (option_to_list found) (filter_map f rest)
    ∙ ap (λ xs. old ++ xs) (put_end found (filter_map f rest)) ∙ ap (λ o. old ++ cons_option o (filter_map f rest)) e
    ∙ ap (λ xs. old ++ filter_map f xs) (sym c) ∙ w
