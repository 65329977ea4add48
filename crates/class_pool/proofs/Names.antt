-- The first entry that names badly, as a loop over the numbers finds it.
use Rattle.std.proofs.Common.{◌≡◌, ℕ, ◌<◌, ◌≤◌, Bool, true, false, cond, ltb, List, length, get_or, Option, Some, None, refl, sym}
use Rattle.std.proofs.Common.{ap, ◌∙◌, arith, inl, inr, not}
use Rattle.std.specs.List.{position_or_len, list_all}
use Rattle.std.proofs.lemmas.Bool.{lt-ltb, le-ltb, cases_lt, false≢true, not-false}
use Rattle.std.proofs.lemmas.List.{get_or_past}
use Rattle.std.proofs.lemmas.Option.{none-some}
use Rattle.std.proofs.lemmas.List.Sums.{position_or_len_is, fails_before_first}
use Rattle.list_views.proofs.Options.{none_from_place}
use Rattle.class_pool.specs.declared.entry.PoolEntry.{PoolEntry}
use Rattle.class_pool.specs.Entry.{names_of}
use Rattle.class_pool.specs.Text.{places_of, entry_at, stands, names_badly, first_bad_index}

-- no entry of a number below i names badly
abbrev pub NoneBelow : List PoolEntry → ℕ → Type 0
NoneBelow entries i = (k : ℕ) → k < i → names_badly entries (entry_at entries k) ≡ false

pub first_is : (entries : List PoolEntry) (i : ℕ) → i < length (places_of entries) → NoneBelow entries i
    → names_badly entries (entry_at entries i) ≡ true → first_bad_index entries ≡ Some i
first_is entries i lt below here =
    let n : position_or_len (names_badly entries) (places_of entries) ≡ i = position_or_len_is (names_badly entries)
    (places_of entries) i None (omega arith) below (λ _. here) in
    ap (λ (k : ℕ). cond (ltb k (length (places_of entries))) (Some k) None) n
    ∙ ap (λ (b : Bool). cond b (Some i) None) (lt-ltb i (length (places_of entries)) lt)

pub none_is : (entries : List PoolEntry) → NoneBelow entries (length (places_of entries)) → first_bad_index entries ≡ None
none_is entries below =
    let len = length (places_of entries) in
    let n : position_or_len (names_badly entries) (places_of entries) ≡ len = position_or_len_is (names_badly entries)
    (places_of entries) len None (omega arith) below (λ lt. absurd (omega arith)) in
    ap (λ (k : ℕ). cond (ltb k len) (Some k) None) n
    ∙ ap (λ (b : Bool). cond b (Some len) None) (le-ltb len len (omega arith))

-- ---- what a pool's entries name stands

-- an entry that is there has a place
within : (xs : List (Option PoolEntry)) (i : ℕ) (e : PoolEntry) → get_or xs i None ≡ Some e → i < length xs
within xs i e here =
    elim (cases_lt i (length xs)) [
      | inl lt ↦ lt
      | inr past ↦ absurd (none-some e (sym (get_or_past xs i None past) ∙ here))
    ]

pub all_stand : (entries : List PoolEntry) (i : ℕ) (e : PoolEntry) → first_bad_index entries ≡ None → entry_at entries i ≡ Some e
    → list_all (stands entries) (names_of e) ≡ true
all_stand entries i e none here =
    let lt = within (places_of entries) i e here in
    let past = none_from_place (position_or_len (names_badly entries) (places_of entries)) (length (places_of entries)) none in
    let good = fails_before_first (names_badly entries) (places_of entries) i None (omega arith) in
    not-false (list_all (stands entries) (names_of e)) (sym (ap (names_badly entries) here) ∙ good)
