-- The ids that a write affects, and their new numbers.
use Rattle.std.proofs.Common.{◌≡◌, ℕ, suc, ◌<◌, ◌≤◌, ◌+◌, ◌==◌, ◌&&◌, ◌||◌, Bool, true, false, List, [], ◌∷◌, ◌++◌, length, map}
use Rattle.std.proofs.Common.{zip, take, get_or, Some, inl, inr, refl, sym, ap, subst, ◌∙◌, arith, All, eq-eqb}
use Rattle.std.specs.Prelude.{◌↔◌, Contains}
use Rattle.std.proofs.lemmas.Bool.{eqb-true, or_cases, or_left, or_right, and_parts, and_from, cond-true, cond-false, cases_Bool, cases_eq}
use Rattle.std.proofs.lemmas.List.{take_more, take_all}
use Rattle.std.proofs.lemmas.List.Elements.{All-nil, All-head, All-tail, All-cons, All-contains}
use Rattle.std.proofs.lemmas.Slice.Zip.{get_or-zip}
use Rattle.std.proofs.lemmas.Option.{none-some}
use Rattle.abs_cells.specs.declared.cells.Cell.{Cell}
use Rattle.abs_cells.specs.AbstractStates.{AbstractState}
use Rattle.abs_cells.specs.Cells.{is_hazy, is_of_sort, cell_in, HasCell}
use Rattle.abs_cells.specs.IdSets.{has_id}
use Rattle.abs_cells.specs.PairLists.{has}
use Rattle.abs_cells.specs.Sound.{AreIdsRising}
use Rattle.abs_cells.proofs.Checking.{has_cell_from, has_cell_to, id_is_low}
use Rattle.abs_reach.proofs.Walks.{some_cell}
use Rattle.abs_heap.specs.Given.{IsBelowFirst, AreRising, AreFresh}
use Rattle.abs_heap.specs.Names.{name_in}
use Rattle.abs_heap.specs.inner.Renaming.{ids_among, if_in, AreNamesOf}
use Rattle.abs_heap.specs.Writing.{is_array_of_references, IsAffected}
use Rattle.abs_heap.proofs.Placing.{cell_later}
use Rattle.abs_heap.proofs.Renamed.{named_here, named_later}

-- ---- which they are

sort_on : (test : Cell → Bool) (n : ℕ) (one other : List (ℕ × Cell)) → one ≡ other
    → is_of_sort test (cell_in one n) ≡ is_of_sort test (cell_in other n)
sort_on test n one other e = ap (λ (cs : List (ℕ × Cell)). is_of_sort test (cell_in cs n)) e

pub affected_is : (state : AbstractState) (k n : ℕ) (one other : List (ℕ × Cell)) (shares : List (ℕ × ℕ))
    (partner hazy all array : Bool) → one ≡ state.cells → other ≡ state.cells → shares ≡ state.share
    → partner ≡ has k n shares
    → hazy ≡ (partner && is_of_sort is_hazy (cell_in one n))
    → array ≡ is_of_sort is_array_of_references (cell_in other k)
    → all ≡ ((array && (n == k)) || hazy)
    → (all ≡ true) ↔ IsAffected state k n
affected_is state k n one other shares partner hazy all array eo ec es p h a e = (
  λ t. elim (or_cases (array && (n == k)) hazy (sym e ∙ t)) [
    | inl u ↦ let q = and_parts array (n == k) u in inr (
      eqb-true n k q.1,
      has_cell_from is_array_of_references state k (sort_on is_array_of_references k state.cells other (sym ec)
          ∙ sym a ∙ q.0),
    )
    | inr u ↦ let q = and_parts partner (is_of_sort is_hazy (cell_in one n)) (sym h ∙ u) in inl (
      ap (has k n) (sym es) ∙ sym p
          ∙ q.0,
      has_cell_from is_hazy state n (sort_on is_hazy n state.cells one (sym eo) ∙ q.1),
    )
  ],
  λ t. e ∙ elim t [
    | inl u ↦ or_right (array && (n == k)) hazy
        (h ∙ and_from partner _ (p ∙ ap (has k n) es ∙ u.0) (sort_on is_hazy n one state.cells eo ∙ has_cell_to is_hazy state n u.1))
    | inr u ↦ or_left (array && (n == k)) hazy
        (and_from array (n == k) (a ∙ sort_on is_array_of_references k other state.cells ec
        ∙ has_cell_to is_array_of_references state k u.1) (eq-eqb n k u.0))
  ],
)

pub affected_there : (state : AbstractState) (k x : ℕ) → IsAffected state k x → HasCell (λ _. true) state x
affected_there state k x (inl h) = some_cell state x h.1
affected_there state k x (inr h) = subst (λ (i : ℕ). HasCell (λ _. true) state i) (sym h.0) (some_cell state k h.1)

-- ---- in order

yes_in : (set : List ℕ) (c : ℕ × Cell) (cells : List (ℕ × Cell)) → has_id set c.0 ≡ true
    → ids_among set (c ∷ cells) ≡ c.0 ∷ ids_among set cells
yes_in set c cells e = cond-true (has_id set c.0) (c.0 ∷ ids_among set cells) (ids_among set cells) e

not_in : (set : List ℕ) (c : ℕ × Cell) (cells : List (ℕ × Cell)) → has_id set c.0 ≡ false → ids_among set (c ∷ cells) ≡ ids_among set cells
not_in set c cells e = cond-false (has_id set c.0) (c.0 ∷ ids_among set cells) (ids_among set cells) e

among_joined : (set : List ℕ) (xs : List (ℕ × Cell)) (c : ℕ × Cell) → ids_among set (xs ++ c ∷ []) ≡ ids_among set xs ++ if_in set c.0
among_joined set [] c = refl
among_joined set (x ∷ xs) c = elim (cases_Bool (has_id set x.0)) [
  | inl e ↦ yes_in set x (xs ++ c ∷ []) e ∙ ap (λ (ys : List ℕ). x.0 ∷ ys) (among_joined set xs c)
      ∙ ap (λ (ys : List ℕ). ys ++ if_in set c.0) (sym (yes_in set x xs e))
  | inr e ↦ not_in set x (xs ++ c ∷ []) e ∙ among_joined set xs c ∙ ap (λ (ys : List ℕ). ys ++ if_in set c.0) (sym (not_in set x xs e))
]

among_next : (set : List ℕ) (cells : List (ℕ × Cell)) (i id : ℕ) (d : ℕ × Cell) → i < length cells → id ≡ (get_or cells i d).0
    → ids_among set (take (i + 1) cells) ≡ ids_among set (take i cells) ++ if_in set id
among_next set cells i id d l is = ap (ids_among set) (take_more cells i d l) ∙ among_joined set (take i cells) (get_or cells i d)
    ∙ ap (λ (n : ℕ). ids_among set (take i cells) ++ if_in set n) (sym is)

pub listed_next : (set : List ℕ) (cells : List (ℕ × Cell)) (i id : ℕ) (d : ℕ × Cell) (ids pushed : List ℕ) → i < length cells
    → id ≡ (get_or cells i d).0
    → ids ≡ ids_among set (take i cells) → pushed ≡ ids ++ if_in set id → pushed ≡ ids_among set (take (i + 1) cells)
listed_next set cells i id d ids pushed l is e f = f ∙ ap (λ (xs : List ℕ). xs ++ if_in set id) e ∙ sym (among_next set cells i id d l is)

pub listed_all : (set : List ℕ) (cells : List (ℕ × Cell)) (i : ℕ) (ids : List ℕ) → length cells ≤ i
    → ids ≡ ids_among set (take i cells) → ids ≡ ids_among set cells
listed_all set cells i ids l e = e ∙ ap (ids_among set) (take_all i cells l)

among_above : (set : List ℕ) (low : ℕ) (cells : List (ℕ × Cell)) (n : ℕ) → AreIdsRising low cells → n < low
    → IsBelowFirst n (ids_among set cells)
among_above set low [] n r l = tt
among_above set low (c ∷ cells) n r l = elim (cases_Bool (has_id set c.0)) [
  | inl e ↦ subst (IsBelowFirst n) (sym (yes_in set c cells e)) (omega (arith, l, r.0))
  | inr e ↦ subst (IsBelowFirst n) (sym (not_in set c cells e)) (among_above set (suc c.0) cells n r.1.1 (omega (arith, l, r.0)))
]

among_rise : (set : List ℕ) (low : ℕ) (cells : List (ℕ × Cell)) → AreIdsRising low cells → AreRising (ids_among set cells)
among_rise set low [] r = tt
among_rise set low (c ∷ cells) r = elim (cases_Bool (has_id set c.0)) [
  | inl e ↦ subst AreRising (sym (yes_in set c cells e))
      (among_above set (suc c.0) cells c.0 r.1.1 (omega arith), among_rise set (suc c.0) cells r.1.1)
  | inr e ↦ subst AreRising (sym (not_in set c cells e)) (among_rise set (suc c.0) cells r.1.1)
]

pub among_few : (set : List ℕ) (cells : List (ℕ × Cell)) → length (ids_among set cells) ≤ length cells
among_few set [] = omega arith
among_few set (c ∷ cells) =
    let h = among_few set cells in
    elim (cases_Bool (has_id set c.0)) [
      | inl e ↦ let f : length (ids_among set (c ∷ cells)) ≡ suc (length (ids_among set cells)) = ap (λ (xs : List ℕ). length xs)
          (yes_in set c cells e) in omega (arith, h, f)
      | inr e ↦ let f : length (ids_among set (c ∷ cells)) ≡ length (ids_among set cells) = ap (λ (xs : List ℕ). length xs)
          (not_in set c cells e) in omega (arith, h, f)
    ]

among_in : (set : List ℕ) (cells : List (ℕ × Cell)) → All (λ id. has_id set id ≡ true) (ids_among set cells)
among_in set [] = All-nil (λ id. has_id set id ≡ true)
among_in set (c ∷ cells) = elim (cases_Bool (has_id set c.0)) [
  | inl e ↦ subst (λ (xs : List ℕ). All (λ id. has_id set id ≡ true) xs) (sym (yes_in set c cells e))
      (All-cons (λ id. has_id set id ≡ true) c.0 (ids_among set cells) e (among_in set cells))
  | inr e ↦ subst (λ (xs : List ℕ). All (λ id. has_id set id ≡ true) xs) (sym (not_in set c cells e)) (among_in set cells)
]

among_all : (set : List ℕ) (cells : List (ℕ × Cell)) (x : ℕ) (cell : Cell) → cell_in cells x ≡ Some cell → has_id set x ≡ true
    → Contains (ids_among set cells) x
among_all set [] x cell e h = absurd (none-some cell e)
among_all set (c ∷ cells) x cell e h = elim (cases_eq c.0 x) [
  | inl s ↦
      let t : has_id set c.0 ≡ true = ap (has_id set) s ∙ h in
      subst (λ (xs : List ℕ). Contains xs x) (sym (yes_in set c cells t)) (0, omega arith, s)
  | inr s ↦
      let k = among_all set cells x cell (sym (cell_later c cells x s) ∙ e) h in
      elim (cases_Bool (has_id set c.0)) [
        | inl t ↦ subst (λ (xs : List ℕ). Contains xs x) (sym (yes_in set c cells t)) (let l = k.1 in (suc k.0, omega (arith, l), k.2))
        | inr t ↦ subst (λ (xs : List ℕ). Contains xs x) (sym (not_in set c cells t)) k
      ]
]

pub names_few : (state : AbstractState) (set : List ℕ) (list : List (ℕ × Cell)) (olds : List ℕ) (n : ℕ) → list ≡ state.cells
    → olds ≡ ids_among set list → length state.cells ≤ 512 → n ≡ length olds → length state.cells + n ≤ 2048
names_few state set list olds n c e few is = let h = among_few set list in let f = ap (λ (xs : List ℕ). length xs) e in let g = ap
    (λ (xs : List (ℕ × Cell)). length xs) c in omega (arith, few, is, h, f, g)

-- ---- with their numbers

firsts : (olds news : List ℕ) → length olds ≡ length news → map (λ (entry : ℕ × ℕ). entry.0) (zip olds news) ≡ olds
firsts [] news e = refl
firsts (a ∷ olds) [] e = absurd (omega (arith, e))
firsts (a ∷ olds) (b ∷ news) e = ap (λ (xs : List ℕ). a ∷ xs) (firsts olds news (omega (arith, e)))

seconds : (olds news : List ℕ) → length olds ≡ length news → map (λ (entry : ℕ × ℕ). entry.1) (zip olds news) ≡ news
seconds [] [] e = refl
seconds [] (b ∷ news) e = absurd (omega (arith, e))
seconds (a ∷ olds) [] e = absurd (omega (arith, e))
seconds (a ∷ olds) (b ∷ news) e = ap (λ (xs : List ℕ). b ∷ xs) (seconds olds news (omega (arith, e)))

zip_long : (olds news : List ℕ) → length olds ≡ length news → length (zip olds news) ≡ length olds
zip_long [] news e = refl
zip_long (a ∷ olds) [] e = absurd (omega (arith, e))
zip_long (a ∷ olds) (b ∷ news) e = ap suc (zip_long olds news (omega (arith, e)))

pub paired_next : (olds news : List ℕ) (i d e : ℕ) (names pushed : List (ℕ × ℕ)) → i < length olds → length olds ≡ length news
    → names ≡ take i (zip olds news) → pushed ≡ names ++ (get_or olds i d, get_or news i e) ∷ [] → pushed ≡ take (i + 1) (zip olds news)
paired_next olds news i d e names pushed l same f g =
    let k = zip_long olds news same in
    let parts : get_or (zip olds news) i (d, e) ≡ (get_or olds i d, get_or news i e) = get_or-zip olds news i (d, e) l
    (omega (arith, l, same)) in
    g ∙ ap (λ (xs : List (ℕ × ℕ)). xs ++ (get_or olds i d, get_or news i e) ∷ []) f
    ∙ ap (λ (x : ℕ × ℕ). take i (zip olds news) ++ x ∷ []) (sym parts) ∙ sym (take_more (zip olds news) i (d, e) (omega (arith, k, l)))

pub paired_all : (olds news : List ℕ) (i : ℕ) (names : List (ℕ × ℕ)) → length olds ≤ i → length olds ≡ length news
    → names ≡ take i (zip olds news) → names ≡ zip olds news
paired_all olds news i names l e f = let k = zip_long olds news e in f ∙ take_all i (zip olds news) (omega (arith, k, l))

module _ (state : AbstractState) (set : List ℕ) (list : List (ℕ × Cell)) (olds news : List ℕ) (names : List (ℕ × ℕ))
    (cells_are : list ≡ state.cells) (rising : AreIdsRising 0 state.cells) (olds_are : olds ≡ ids_among set list)
    (count : length news ≡ length olds) (names_are : names ≡ zip olds news) where
  old_is : olds ≡ ids_among set state.cells
  old_is = olds_are ∙ ap (ids_among set) cells_are

  first_names : map (λ (entry : ℕ × ℕ). entry.0) names ≡ ids_among set state.cells
  first_names = ap (map (λ (entry : ℕ × ℕ). entry.0)) names_are ∙ firsts olds news (sym count) ∙ old_is

  second_names : map (λ (entry : ℕ × ℕ). entry.1) names ≡ news
  second_names = ap (map (λ (entry : ℕ × ℕ). entry.1)) names_are ∙ seconds olds news (sym count)

  pub names_of : ((x : ℕ) → has_id set x ≡ true → HasCell (λ _. true) state x) → AreFresh state news → AreNamesOf state set names
  names_of there fresh = record {
    old_rise = subst AreRising (sym first_names) (among_rise set 0 state.cells rising);
    listed = λ x. (
      λ c. All-contains (λ id. has_id set id ≡ true) (ids_among set state.cells) x (among_in set state.cells)
          (subst (λ (xs : List ℕ). Contains xs x) first_names c),
      λ h. subst (λ (xs : List ℕ). Contains xs x) (sym first_names) (let t = there x h in among_all set state.cells x t.cell t.is h),
    );
    fresh = subst (AreFresh state) (sym second_names) fresh;
  }

  low_name : (xs bs : List ℕ) (id : ℕ) → All (λ i. i < 2048) bs → id < 2048 → name_in (zip xs bs) id < 2048
  low_name [] bs id low l = l
  low_name (a ∷ xs) [] id low l = l
  low_name (a ∷ xs) (b ∷ bs) id low l = elim (cases_eq a id) [
    | inl s ↦ subst (λ (n : ℕ). n < 2048) (sym (named_here (a, b) (zip xs bs) id s)) (All-head (λ i. i < 2048) b bs low)
    | inr s ↦ subst (λ (n : ℕ). n < 2048) (sym (named_later (a, b) (zip xs bs) id s))
        (low_name xs bs id (All-tail (λ i. i < 2048) b bs low) l)
  ]

  pub names_low : All (λ id. id < 2048) news → All (λ c. name_in names c.0 < 2048) state.cells
  names_low low = λ k d l. subst (λ (ns : List (ℕ × ℕ)). name_in ns (get_or state.cells k d).0 < 2048) (sym names_are)
      (low_name olds news (get_or state.cells k d).0 low (id_is_low 0 state.cells k d rising l))
