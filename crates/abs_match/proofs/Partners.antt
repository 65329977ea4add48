-- Sets of the images of the ids that are no pair with an id.
use Rattle.std.proofs.Common.{◌≡◌, ◌≢◌, ℕ, zero, suc, ◌+◌, ◌<◌, ◌≤◌, ◌==◌, eqb, Bool, true, false, not, ◌&&◌, ◌||◌, List, [], ◌∷◌}
use Rattle.std.proofs.Common.{length, get_or, map, Option, Some, None, slice_get, ◌⊎◌, inl, inr, ◌↔◌, refl, sym, ap, subst, ◌∙◌}
use Rattle.std.proofs.Common.{arith, if◌then◌else◌}
use Rattle.std.proofs.lemmas.Bool.{false≢true, not-true, eqb-true, eqb-false, eq-eqb, ne_eqb, and_parts, and_from, or_cases}
use Rattle.std.proofs.lemmas.Bool.{or_left, or_right, not_from_false, cases_lt, cases_Bool}
use Rattle.std.proofs.lemmas.List.{length-map}
use Rattle.std.proofs.lemmas.Option.{slice_get_within, get_or_from_slice_get, slice_get-map, none-some}
use Rattle.std.specs.Option.{option_map}
use Rattle.abs_cells.proofs.CellLaws.{place_of_cell}
use Rattle.list_views.proofs.Options.{map_some}
use Rattle.jvm_values.proofs.Options.{some_is}
use Rattle.abs_cells.specs.declared.cells.Cell.{Cell}
use Rattle.abs_cells.specs.IdSets.{has_id}
use Rattle.abs_cells.specs.PairLists.{has}
use Rattle.abs_cells.specs.Cells.{cell_in}
use Rattle.abs_cells.specs.Sound.{AreIdsRising}
use Rattle.abs_reach.specs.Instances.{image_in}
use Rattle.abs_reach.proofs.Finding as finding
use Rattle.abs_match.specs.declared.clauses.OtherSort.{OtherSort}
use Rattle.abs_reach.specs.Keys.{AreKeysRising}
use Rattle.abs_match.specs.inner.Matching.{is_wanted, is_other, IsApartAt, IsApartImage}
use Rattle.abs_match.proofs.Entries.{image_is_there}

abbrev pub key : ℕ × ℕ → ℕ
key entry = entry.0

abbrev pub id_of : ℕ × Cell → ℕ
id_of c = c.0

first_of : List ℕ → ℕ
first_of [] = 0
first_of (x ∷ xs) = x

rest_of : List ℕ → List ℕ
rest_of [] = []
rest_of (x ∷ xs) = xs

pub keys_rise : (entries : List (ℕ × ℕ)) (given : List (ℕ × Cell)) (low : ℕ) → map key entries ≡ map id_of given
    → AreIdsRising low given → AreKeysRising low entries
unfolding first_of rest_of
keys_rise [] given low e r = tt
keys_rise (entry ∷ entries) [] low e r = absurd (cc)
keys_rise (entry ∷ entries) (c ∷ given) low e r =
    let same : entry.0 ≡ c.0 = ap first_of e in
    let first : low ≤ entry.0 = omega (arith, same, r.0) in
    (first, keys_rise entries given (suc entry.0) (ap rest_of e) (subst (λ (k : ℕ). AreIdsRising (suc k) given) (sym same) r.1.1))

pub as_many : (entries : List (ℕ × ℕ)) (given : List (ℕ × Cell)) (n : ℕ) → map key entries ≡ map id_of given → n < length given
    → n < length entries
as_many entries given n e low =
    let l : length entries ≡ length given = sym (length-map entries key) ∙ ap (λ (ids : List ℕ). length ids) e ∙ length-map given id_of in
    omega (arith, l, low)

pub stands_in : (given : List (ℕ × Cell)) (n : ℕ) (c : ℕ × Cell) → AreIdsRising 0 given → slice_get given n ≡ Some c
    → cell_in given c.0 ≡ Some c.1
stands_in given n c r e =
    let low : n < length given = slice_get_within given n c e in
    let is : get_or given n c ≡ c = get_or_from_slice_get given n c c e in
    finding.stands 0 given c.0 n c r low (ap id_of is) ∙ ap (λ (x : ℕ × Cell). Some x.1) is

pub entry_beside : (entries : List (ℕ × ℕ)) (given : List (ℕ × Cell)) (n : ℕ) (c : ℕ × Cell) → map key entries ≡ map id_of given
    → slice_get given n ≡ Some c → (entry : ℕ × ℕ) × ((slice_get entries n ≡ Some entry) × (entry.0 ≡ c.0))
entry_beside entries given n c same e =
    map_some key (slice_get entries n) c.0 (sym (slice_get-map key entries n) ∙ ap (λ (ids : List ℕ). slice_get ids n) same
    ∙ slice_get-map id_of given n ∙ ap (option_map id_of) e)

-- ---- the set, cell by cell

module _ (given : List (ℕ × Cell)) (entries pairs : List (ℕ × ℕ)) (sort : OtherSort) (id : ℕ) where
  abbrev pub FirstApart : ℕ → ℕ → Type 0
  FirstApart count image = (n : ℕ) × ((n < count) × IsApartAt given entries pairs sort id n image)

  pub none_yet : (set : List ℕ) → ((m : ℕ) → has_id set m ≡ false) → (image : ℕ) → (has_id set image ≡ true) ↔ FirstApart 0 image
  none_yet set h image = (λ e. absurd (false≢true (sym (h image) ∙ e)), λ a. absurd (omega (arith, a.1.0)))

  pub put_one : (set new : List ℕ) (i image : ℕ) → ((m : ℕ) → has_id new m ≡ ((m == image) || has_id set m))
      → ((m : ℕ) → (has_id set m ≡ true) ↔ FirstApart i m) → IsApartAt given entries pairs sort id i image → (m : ℕ)
      → (has_id new m ≡ true) ↔ FirstApart (i + 1) m
  put_one set new i image put h at m = (to, from)
    where
      to : has_id new m ≡ true → FirstApart (i + 1) m
      to e = elim (or_cases (m == image) (has_id set m) (sym (put m) ∙ e)) [
        | inl s ↦ (i, (omega arith, subst (IsApartAt given entries pairs sort id i) (sym (eqb-true m image s)) at))
        | inr s ↦ let a = (h m).0 s in (a.0, (omega (arith, a.1.0), a.1.1))
      ]

      from : FirstApart (i + 1) m → has_id new m ≡ true
      from a = elim (cases_lt a.0 i) [
        | inl l ↦ put m ∙ or_right (m == image) (has_id set m) ((h m).1 (a.0, (l, a.1.1)))
        | inr l ↦
            let same : a.0 ≡ i = omega (arith, l, a.1.0) in
            let entry : a.1.1.entry ≡ at.entry = some_is (sym a.1.1.entry_at ∙ ap (λ (k : ℕ). slice_get entries k) same ∙ at.entry_at) in
            put m ∙ or_left (m == image) (has_id set m) (eq-eqb m image (sym a.1.1.maps ∙ ap (λ (e : ℕ × ℕ). e.1) entry ∙ at.maps))
      ]

  pub skip_one : (set : List ℕ) (i : ℕ) (c : ℕ × Cell) → slice_get given i ≡ Some c → is_other sort id pairs c ≡ false
      → ((m : ℕ) → (has_id set m ≡ true) ↔ FirstApart i m) → (m : ℕ) → (has_id set m ≡ true) ↔ FirstApart (i + 1) m
  skip_one set i c e other h m = (λ t. let a = (h m).0 t in (a.0, (omega (arith, a.1.0), a.1.1)), from)
    where
      from : FirstApart (i + 1) m → has_id set m ≡ true
      from a = elim (cases_lt a.0 i) [
        | inl l ↦ (h m).1 (a.0, (l, a.1.1))
        | inr l ↦
            let same : a.0 ≡ i = omega (arith, l, a.1.0) in
            let cell : a.1.1.c ≡ c = some_is (sym a.1.1.at ∙ ap (λ (k : ℕ). slice_get given k) same ∙ e) in
            absurd (false≢true (sym other ∙ ap (is_other sort id pairs) (sym cell) ∙ a.1.1.other))
      ]

  -- one more cell, whose image was put where it is wanted
  pub one_more : (wanted : Bool) (set new : List ℕ) (i : ℕ) (c : ℕ × Cell) (entry : ℕ × ℕ) → slice_get given i ≡ Some c
      → slice_get entries i ≡ Some entry → wanted ≡ is_other sort id pairs c
      → ((m : ℕ) → has_id new m ≡ ((wanted && (m == entry.1)) || has_id set m)) → ((m : ℕ) → (has_id set m ≡ true) ↔ FirstApart i m)
      → (m : ℕ) → (has_id new m ≡ true) ↔ FirstApart (i + 1) m
  one_more true set new i c entry at entry_at is put h m = put_one set new i entry.1 put h
      (record { c = c; at = at; entry = entry; entry_at = entry_at; other = sym is; maps = refl }) m
  one_more false set new i c entry at entry_at is put h m =
      let same = skip_one set i c at (sym is) h m in
      (λ t. same.0 (sym (put m) ∙ t), λ a. put m ∙ same.1 a)

  module _ (keys : map key entries ≡ map id_of given) (rising : AreIdsRising 0 given) (entries_rise : AreKeysRising 0 entries) where
    apart_to : (n image : ℕ) → IsApartAt given entries pairs sort id n image → IsApartImage given entries pairs (is_wanted sort) id image
    apart_to n image a =
        let parts = and_parts (is_wanted sort a.c.1) (not (a.c.0 == id) && not (has id a.c.0 pairs)) a.other in
        let more = and_parts (not (a.c.0 == id)) (not (has id a.c.0 pairs)) parts.1 in
        let beside = entry_beside entries given n a.c keys a.at in
        let entry : beside.0 ≡ a.entry = some_is (sym beside.1.0 ∙ a.entry_at) in
        let named : a.entry.0 ≡ a.c.0 = ap (λ (e : ℕ × ℕ). e.0) (sym entry) ∙ beside.1.1 in
        record {
          y = a.c.0;
          cell = a.c.1;
          is = stands_in given n a.c rising a.at;
          sort_is = parts.0;
          differ = λ (e : id ≡ a.c.0). eqb-false a.c.0 id (not-true (a.c.0 == id) more.0) (sym e);
          free = not-true (has id a.c.0 pairs) more.1;
          maps = ap (image_in entries) (sym named) ∙ image_is_there entries n a.entry entries_rise a.entry_at ∙ ap Some a.maps;
        }

    apart_from : (image : ℕ) → IsApartImage given entries pairs (is_wanted sort) id image
        → (n : ℕ) × ((n < length given) × IsApartAt given entries pairs sort id n image)
    apart_from image a =
        let place = place_of_cell given a.y a.cell a.is in
        let beside = entry_beside entries given place.0 (a.y, a.cell) keys place.1 in
        let there : image_in entries a.y ≡ Some beside.0.1 = ap (image_in entries) (sym beside.1.1)
        ∙ image_is_there entries place.0 beside.0 entries_rise beside.1.0 in (
          place.0,
          (
            slice_get_within given place.0 (a.y, a.cell) place.1,
            record {
              c = (a.y, a.cell);
              at = place.1;
              entry = beside.0;
              entry_at = beside.1.0;
              other = and_from (is_wanted sort a.cell) (not (a.y == id) && not (has id a.y pairs)) a.sort_is
                  (and_from (not (a.y == id)) (not (has id a.y pairs))
                  (not_from_false (a.y == id) (ne_eqb a.y id (λ (e : a.y ≡ id). a.differ (sym e))))
                  (not_from_false (has id a.y pairs) a.free));
              maps = some_is (sym there ∙ a.maps);
            },
          ),
        )

    pub all_apart : (set : List ℕ) (count : ℕ) → length given ≤ count → ((m : ℕ) → (has_id set m ≡ true) ↔ FirstApart count m)
        → (image : ℕ) → (has_id set image ≡ true) ↔ IsApartImage given entries pairs (is_wanted sort) id image
    all_apart set count l h image = (
      λ t. apart_to ((h image).0 t).0 image ((h image).0 t).1.1,
      λ a. let p = apart_from image a in (h image).1 (p.0, (omega (arith, p.1.0, l), p.1.1)),
    )
