-- In a list that rises, the least name that passes a test is the first one.
use Rattle.std.proofs.Common.{◌≡◌, ℕ, Bool, true, false, cond, List, [], ◌∷◌, map, filter, find, not, Option, Some, None}
use Rattle.std.proofs.Common.{option_map, String, string_bytes, refl, sym, ap, ◌∙◌, Global}
use Rattle.std.specs.declared.cmp.Ordering.TheVariants.{Less}
use Rattle.std.specs.Map.{keys_of}
use Rattle.std.specs.String.{string_cmp}
use Rattle.std.specs.Borrow.{Bor}
use Rattle.std.specs.Option.{option_map_or}
use Rattle.std.specs.List.Sorted.{IsStrictlySortedBy}
use Rattle.std.proofs.lemmas.List.Kept.{IsStrictlySortedBy-filter}
use Rattle.std.proofs.lemmas.Map.Keys.{sorted_head, sorted_tail}
use Rattle.serde_json.specs.View.{members_view}
use Rattle.serde_json.specs.declared.value.Value.{Value}
use Rattle.json_view.specs.Answers.{bytes_of}
use Rattle.json_view.specs.Names.{is_listed, least, least_unlisted, lesser, member_names}

abbrev names_of : List (String Global) → List (List ℕ)
names_of keys = map string_bytes keys

-- the head of a list that rises
least-sorted : (k : String Global) (ks : List (String Global)) → IsStrictlySortedBy string_cmp (k ∷ ks)
    → option_map_or (lesser (string_bytes k)) (least (names_of ks)) (string_bytes k) ≡ string_bytes k
least-sorted k [] h = refl
least-sorted k (j ∷ js) h =
    let rest : option_map_or (lesser (string_bytes j)) (least (names_of js)) (string_bytes j) ≡ string_bytes j = least-sorted j js
    (sorted_tail string_cmp k (j ∷ js) h) in
    let below : string_cmp k j ≡ Less = (sorted_head string_cmp k (j ∷ js) h).0 in
    rw (rest, below) refl

filter-names : (p : List ℕ → Bool) (ks : List (String Global)) → filter p (names_of ks) ≡ names_of (filter (λ k. p (string_bytes k)) ks)
filter-names p [] = refl
filter-names p (k ∷ ks) = elim (p (string_bytes k)) as
    (λ b. cond b (string_bytes k ∷ filter p (names_of ks)) (filter p (names_of ks)) ≡ names_of
    (cond b (k ∷ filter (λ k. p (string_bytes k)) ks) (filter (λ k. p (string_bytes k)) ks)))
    [ true ↦ ap (λ names. string_bytes k ∷ names) (filter-names p ks) | false ↦ filter-names p ks ]

-- the least name of a list that rises and passes a test
least-filter : (p : List ℕ → Bool) (ks : List (String Global)) → IsStrictlySortedBy string_cmp ks
    → least (filter p (names_of ks)) ≡ option_map string_bytes (find (λ k. p (string_bytes k)) ks)
least-filter p [] h = refl
least-filter p (k ∷ ks) h =
    let q : String Global → Bool = λ k. p (string_bytes k) in
    let kept : IsStrictlySortedBy string_cmp (filter q (k ∷ ks)) = IsStrictlySortedBy-filter string_cmp q (k ∷ ks) h in
    elim (p (string_bytes k)) as (λ b. IsStrictlySortedBy string_cmp (cond b (k ∷ filter q ks) (filter q ks))
    → least (cond b (string_bytes k ∷ filter p (names_of ks)) (filter p (names_of ks))) ≡ option_map string_bytes
    (cond b (Some k) (find q ks))) [
      | true ↦ λ rises. rw (filter-names p ks) (ap Some (least-sorted k (filter q ks) rises))
      | false ↦ λ rises. least-filter p ks (sorted_tail string_cmp k ks h)
    ] kept

-- an object's names are its keys
member_names-members_view : (es : List (String Global × Value)) → member_names (members_view es) ≡ names_of (keys_of es)
member_names-members_view [] = refl
member_names-members_view (e ∷ es) = ap (λ names. string_bytes e.0 ∷ names) (member_names-members_view es)

bytes_of-now : (r : Option (Bor (String Global))) → option_map bytes_of r ≡ option_map string_bytes (option_map (λ x. x.now) r)
bytes_of-now None = refl
bytes_of-now (Some x) = refl

-- the first unlisted key of an object is its least unlisted name
pub least_unlisted-first : (names : List ℕ) (es : List (String Global × Value)) (keys : List (String Global))
    (r : Option (Bor (String Global))) → keys ≡ keys_of es → IsStrictlySortedBy string_cmp (keys_of es)
    → option_map (λ x. x.now) r ≡ find (λ key. not (is_listed names (string_bytes key))) keys
    → option_map bytes_of r ≡ least_unlisted names (members_view es)
unfolding least_unlisted
least_unlisted-first names es keys r same rises found =
    let p : List ℕ → Bool = λ name. not (is_listed names name) in
    bytes_of-now r ∙ ap (option_map string_bytes) (found ∙ ap (find (λ key. p (string_bytes key))) same)
    ∙ sym (least-filter p (keys_of es) rises) ∙ ap (λ all. least (filter p all)) (sym (member_names-members_view es))
