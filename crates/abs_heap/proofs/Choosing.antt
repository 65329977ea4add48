-- The ids of a set whose cells are of a sort, and pairs of the ids of two sets.
use Rattle.std.proofs.Common.{◌≡◌, ℕ, suc, ◌<◌, ◌≤◌, ◌==◌, ◌&&◌, ◌||◌, ◌+◌, Bool, true, false, List, [], ◌∷◌, ◌++◌, length, get_or}
use Rattle.std.proofs.Common.{take, Option, Some, None, inl, inr, refl, sym, ap, ◌∙◌, arith, eq-eqb, ne_eqb}
use Rattle.std.specs.List.{list_any}
use Rattle.std.proofs.lemmas.Bool.{false≢true, eqb-true, and_parts, and_from, or_cases, or_left, or_right, cases_eq}
use Rattle.std.proofs.lemmas.List.{take_more, take_all}
use Rattle.list_views.proofs.Truths.{or_false, and_true, and_false}
use Rattle.jvm_values.specs.declared.types.Ty.{Ty}
use Rattle.abs_cells.specs.declared.cells.Cell.{Cell}
use Rattle.abs_cells.specs.Cells.{is_reference, is_of_sort, cell_in, are_compatible}
use Rattle.abs_cells.specs.IdSets.{has_id}
use Rattle.abs_cells.specs.Sound.{AreIdsRising}
use Rattle.abs_heap.specs.inner.Building.{Gains, may_be_one}
use Rattle.abs_heap.specs.inner.Splitting.{WantsOne}
use Rattle.abs_heap.proofs.PairGains.{gain_as, gain_both, gain_nothing, is_listed, listed_next, listed_there, joins_left}
use Rattle.abs_heap.proofs.Placing.{cell_here, cell_later}

abbrev pub chosen : (Cell → Bool) → List ℕ → ℕ → ℕ × Cell → Bool
chosen test others n c = (has_id others c.0 && test c.1) && (n == c.0)

not_chosen : (test : Cell → Bool) (others : List ℕ) (n low : ℕ) (cells : List (ℕ × Cell)) → AreIdsRising low cells → n < low
    → list_any (chosen test others n) cells ≡ false
not_chosen test others n low [] r l = refl
not_chosen test others n low (c ∷ cells) r l =
    ap (λ (b : Bool). ((has_id others c.0 && test c.1) && b) || list_any (chosen test others n) cells)
    (ne_eqb n c.0 (λ e. omega (arith, e, l, r.0)))
    ∙ ap (λ (b : Bool). b || list_any (chosen test others n) cells) (and_false (has_id others c.0 && test c.1))
    ∙ not_chosen test others n (suc c.0) cells r.1.1 (omega (arith, l, r.0))

pub chosen_are : (test : Cell → Bool) (others : List ℕ) (n low : ℕ) (cells : List (ℕ × Cell)) → AreIdsRising low cells
    → list_any (chosen test others n) cells ≡ (has_id others n && is_of_sort test (cell_in cells n))
chosen_are test others n low [] r = sym (and_false (has_id others n))
chosen_are test others n low (c ∷ cells) r = elim (cases_eq c.0 n) [
  | inl e ↦
      ap (λ (b : Bool). ((has_id others c.0 && test c.1) && b) || list_any (chosen test others n) cells) (eq-eqb n c.0 (sym e))
      ∙ ap (λ (b : Bool). b || list_any (chosen test others n) cells) (and_true (has_id others c.0 && test c.1))
      ∙ ap (λ (b : Bool). (has_id others c.0 && test c.1) || b) (not_chosen test others n (suc c.0) cells r.1.1 (omega (arith, e)))
      ∙ or_false (has_id others c.0 && test c.1)
      ∙ ap (λ (i : ℕ). has_id others i && test c.1) e
      ∙ ap (λ (o : Option Cell). has_id others n && is_of_sort test o) (sym (cell_here c cells n e))
  | inr e ↦
      ap (λ (b : Bool). ((has_id others c.0 && test c.1) && b) || list_any (chosen test others n) cells) (ne_eqb n c.0 (λ s. e (sym s)))
      ∙ ap (λ (b : Bool). b || list_any (chosen test others n) cells) (and_false (has_id others c.0 && test c.1))
      ∙ chosen_are test others n (suc c.0) cells r.1.1
      ∙ ap (λ (o : Option Cell). has_id others n && is_of_sort test o) (sym (cell_later c cells n e))
]

pub any_joined : {X : Type 0} (p : X → Bool) (xs : List X) (x : X) → list_any p (xs ++ x ∷ []) ≡ (p x || list_any p xs)
any_joined p [] x = refl
any_joined p (y ∷ xs) x = ap (λ (b : Bool). p y || b) (any_joined p xs x) ∙ swapped (p y) (p x) (list_any p xs)
  where
    swapped : (a b c : Bool) → (a || (b || c)) ≡ (b || (a || c))
    swapped true true c = refl
    swapped true false c = refl
    swapped false b c = refl

pub chosen_next : (test : Cell → Bool) (others : List ℕ) (n i : ℕ) (d : ℕ × Cell) (cells : List (ℕ × Cell)) (old new wanted : Bool)
    → i < length cells → d ≡ get_or cells i d → wanted ≡ (has_id others d.0 && test d.1)
    → old ≡ list_any (chosen test others n) (take i cells) → new ≡ ((wanted && (n == d.0)) || old)
    → new ≡ list_any (chosen test others n) (take (i + 1) cells)
chosen_next test others n i d cells old new wanted l is w f g =
    g
    ∙ ap (λ (b : Bool). (b && (n == d.0)) || old) w
    ∙ ap (λ (b : Bool). chosen test others n d || b) f
    ∙ ap (λ (c : ℕ × Cell). chosen test others n c || list_any (chosen test others n) (take i cells)) is
    ∙ sym (any_joined (chosen test others n) (take i cells) (get_or cells i d))
    ∙ ap (list_any (chosen test others n)) (sym (take_more cells i d l))

one_sort : (sub : Ty → Ty → Bool) (cell : Cell) (o : Option Cell) → may_be_one sub (Some cell) o ≡ is_of_sort (are_compatible sub cell) o
one_sort sub cell None = refl
one_sort sub cell (Some other) = refl

pub chosen_gain : (sub : Ty → Ty → Bool) (cells : List (ℕ × Cell)) (id : ℕ) (cell : Cell) (others set : List ℕ)
    (old new : List (ℕ × ℕ)) → cell_in cells id ≡ Some cell
    → ((n : ℕ) → has_id set n ≡ (has_id others n && is_of_sort (are_compatible sub cell) (cell_in cells n)))
    → Gains cells (λ c d. (c ≡ id) × (has_id set d ≡ true)) old new
    → Gains cells (λ c d. (c ≡ id) × ((has_id others d ≡ true) × (may_be_one sub (cell_in cells id) (cell_in cells d) ≡ true))) old new
chosen_gain sub cells id cell others set old new e are g =
    let same : (d : ℕ) → may_be_one sub (cell_in cells id) (cell_in cells d) ≡ is_of_sort (are_compatible sub cell)
    (cell_in cells d) = λ d. ap (λ (o : Option Cell). may_be_one sub o (cell_in cells d)) e ∙ one_sort sub cell (cell_in cells d) in
    gain_as cells _ _ old new
    (λ a b j w. let p = and_parts _ _ (sym (are b) ∙ w.1) in inl (w.0, (p.0, same b ∙ p.1)))
    (λ a b j w. inl (w.0, are b ∙ and_from _ _ w.1.0 (sym (same b) ∙ w.1.1)))
    g

-- ---- each id of one set with those of another

pub among_none : (cells : List (ℕ × Cell)) (wanted : ℕ → ℕ → Type 0) (old : List (ℕ × ℕ))
    → Gains cells (λ a b. (is_listed a [] ≡ true) × wanted a b) old old
among_none cells wanted old = gain_nothing cells _ old (λ a b j w. false≢true w.0)

pub among_next : (cells : List (ℕ × Cell)) (wanted : ℕ → ℕ → Type 0) (i id : ℕ) (d : ℕ × Cell) (old mid new : List (ℕ × ℕ))
    → i < length cells → id ≡ (get_or cells i d).0
    → Gains cells (λ a b. (is_listed a (take i cells) ≡ true) × wanted a b) old mid
    → Gains cells (λ a b. (a ≡ id) × wanted a b) mid new
    → Gains cells (λ a b. (is_listed a (take (i + 1) cells) ≡ true) × wanted a b) old new
among_next cells wanted i id d old mid new l is f s = gain_as cells _ _ old new
    (λ a b j w. elim w [
      | inl v ↦ inl (listed_next a cells i d l ∙ or_left _ _ v.0, v.1)
      | inr v ↦ inl (listed_next a cells i d l ∙ or_right _ _ (eq-eqb (get_or cells i d).0 a (sym is ∙ sym v.0)), v.1)
    ])
    (λ a b j w. elim (or_cases _ _ (sym (listed_next a cells i d l) ∙ w.0)) [
      | inl v ↦ inl (inl (v, w.1))
      | inr v ↦ inl (inr (sym (eqb-true (get_or cells i d).0 a v) ∙ sym is, w.1))
    ])
    (gain_both cells _ _ old mid new f s)

pub among_all : (cells : List (ℕ × Cell)) (wanted : ℕ → ℕ → Type 0) (i : ℕ) (old new : List (ℕ × ℕ)) → length cells ≤ i
    → Gains cells (λ a b. (is_listed a (take i cells) ≡ true) × wanted a b) old new → Gains cells wanted old new
among_all cells wanted i old new l g = gain_as cells _ _ old new
    (λ a b j w. inl w.1)
    (λ a b j w. inl (ap (is_listed a) (take_all i cells l) ∙ listed_there a cells is_reference (joins_left cells a b j), w))
    g

pub one_of_set : (sub : Ty → Ty → Bool) (cells : List (ℕ × Cell)) (id : ℕ) (ids others : List ℕ) (is_in : Bool)
    (old new : List (ℕ × ℕ)) → is_in ≡ has_id ids id → is_in ≡ true
    → Gains cells (λ c d. (c ≡ id) × ((has_id others d ≡ true) × (may_be_one sub (cell_in cells id) (cell_in cells d) ≡ true))) old new
    → Gains cells (λ c d. (c ≡ id) × WantsOne sub cells ids others c d) old new
one_of_set sub cells id ids others is_in old new e t g = gain_as cells _ _ old new
    (λ a b j w. inl (
      w.0,
      (ap (has_id ids) w.0 ∙ sym e ∙ t, (w.1.0, ap (λ (n : ℕ). may_be_one sub (cell_in cells n) (cell_in cells b)) w.0 ∙ w.1.1)),
    ))
    (λ a b j w. inl (w.0, (w.1.1.0, ap (λ (n : ℕ). may_be_one sub (cell_in cells n) (cell_in cells b)) (sym w.0) ∙ w.1.1.1)))
    g

pub none_of_set : (sub : Ty → Ty → Bool) (cells : List (ℕ × Cell)) (id : ℕ) (ids others : List ℕ) (is_in : Bool)
    (old : List (ℕ × ℕ)) → is_in ≡ has_id ids id → is_in ≡ false
    → Gains cells (λ c d. (c ≡ id) × WantsOne sub cells ids others c d) old old
none_of_set sub cells id ids others is_in old e f = gain_nothing cells _ old
    (λ a b j w. false≢true (sym f ∙ e ∙ ap (has_id ids) (sym w.0) ∙ w.1.0))
