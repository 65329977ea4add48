-- How many ids the children of splits have, and what the expansion of a state that is split is.
use Rattle.std.proofs.Common.{◌≡◌, ◌∙◌, ◌<◌, ◌≤◌, ◌-◌, ◌==◌, ◌&&◌, ℕ, suc, Bool, true, false, if◌then◌else◌, List, [], ◌∷◌, length}
use Rattle.std.proofs.Common.{map, take, Option, Some, refl, sym, ap, subst, arith}
use Rattle.std.specs.Prelude.{◌↔◌, nat_le, Result, Ok, Err}
use Rattle.std.specs.List.{AllByRecursion, AllZip}
use Rattle.std.proofs.lemmas.Bool.{leb-true, leb-false}
use Rattle.std.proofs.lemmas.List.{length-map}
use Rattle.std.proofs.lemmas.List.Elements.{All-from_recursion, All-cons}
use Rattle.jvm_values.specs.declared.types.Ty.{Ty}
use Rattle.jvm_values.specs.TypedHeaps.{WorldTypes}
use Rattle.abs_cells.specs.declared.cells.Cell.{Cell}
use Rattle.abs_cells.specs.AbstractStates.{AbstractState}
use Rattle.abs_cells.specs.Cells.{cell_at, are_compatible}
use Rattle.abs_cells.specs.Limits.{most_ids}
use Rattle.abs_heap.specs.Answers.{AreNullChildren, AreClassChildren, AreEqualAnswers, IsFirstTooManyChild}
use Rattle.abs_heap.specs.Counts.{AreFew, IsFirstTooMany, case_counts}
use Rattle.abs_heap.specs.Laws.{plain_link}
use Rattle.abs_heap.specs.declared.fault.SplitFault.{SplitFault}
use Rattle.abs_heap.specs.declared.fault.SplitFault.TheVariants.{TooManyIds, Memory}
use Rattle.abs_heap.specs.Refining.{IsEqualChild, cases_of}
use Rattle.abs_heap.specs.Refining.IsEqualChild.{both, alone}
use Rattle.term_graph.specs.Graphs.{GraphChild}
use Rattle.abs_plans.specs.abs_turns.Plans.{by_null, by_class, by_equal}
use Rattle.abs_expand.specs.Answers.{HasPlanChildren}
use Rattle.abs_expand.specs.inner.Building.{fault_of_split}
use Rattle.abs_expand.specs.Children.{IsLean}
use Rattle.abs_expand.specs.Expansions.{AreExpanded, class_counts, equal_counts}

-- ---- the first of some counts that is too large

abbrev IsFew : ℕ → Type 0
IsFew count = count ≤ most_ids

first_is : (count : ℕ) (rest : List ℕ) → most_ids < count → IsFirstTooMany (count ∷ rest) 0
first_is count rest m = record { count = count; is = refl; many = m; before = All-from_recursion IsFew [] tt }

second_is : (a count : ℕ) (rest : List ℕ) → a ≤ most_ids → most_ids < count → IsFirstTooMany (a ∷ count ∷ rest) 1
second_is a count rest l m = record { count = count; is = refl; many = m; before = All-from_recursion IsFew (a ∷ []) (l, tt) }

later_is : (a : ℕ) (counts : List ℕ) (n : ℕ) → a ≤ most_ids → IsFirstTooMany counts n → IsFirstTooMany (a ∷ counts) (suc n)
later_is a counts n l first = record {
  count = first.count;
  is = first.is;
  many = first.many;
  before = All-cons IsFew a (take n counts) l first.before;
}

-- where none is the first that is too large, none is
few_unless : (counts : List ℕ) → ((n : ℕ) → IsFirstTooMany counts n → ⊥) → AllByRecursion IsFew counts
few_unless [] none = tt
few_unless (count ∷ counts) none = at (nat_le count most_ids) refl (few_unless counts)
  where
    at : (b : Bool) → nat_le count most_ids ≡ b → (((n : ℕ) → IsFirstTooMany counts n → ⊥) → AllByRecursion IsFew counts)
        → AllByRecursion IsFew (count ∷ counts)
    at true e rest =
        let low : count ≤ most_ids = leb-true count most_ids e in
        (low, rest (λ n first. none (suc n) (later_is count counts n low first)))
    at false e rest = absurd (none 0 (first_is count counts (leb-false count most_ids e)))

module _ (types : WorldTypes) (state : AbstractState) where
  -- ---- by null

  pub null_crowded : most_ids < length state.cells → IsFirstTooMany (length state.cells ∷ length state.cells ∷ []) 0
  null_crowded m = first_is (length state.cells) (length state.cells ∷ []) m

  pub null_expanded : (x : ℕ) (wholes children : List GraphChild) → length state.cells ≤ most_ids → AreNullChildren state x wholes
      → AllZip IsLean wholes children
      → AreExpanded types state (by_null x) children
  null_expanded x wholes children l h z = record {
    few = All-from_recursion IsFew (length state.cells ∷ length state.cells ∷ []) (
      l,
      (l, tt),
    );
    wholes = wholes;
    are = h;
    lean = z;
  }

  -- ---- by class

  pub class_crowded : (x : ℕ) (wanted : Ty) (n : ℕ) → IsFirstTooManyChild types state x wanted n
      → IsFirstTooMany (class_counts types state wanted (cell_at state x)) n
  class_crowded x wanted n h = subst (λ (c : Option Cell). IsFirstTooMany (class_counts types state wanted c) n) (sym h.was) h.first

  -- where the call answers with children, none is the first with too many ids
  pub no_first : {A : Type 0} (x : ℕ) (wanted : Ty) (children : A)
      → ((n : ℕ) → (◌≡◌ {A = Result A SplitFault} (Ok children) (Err (TooManyIds n))) ↔ IsFirstTooManyChild types state x wanted n)
      → (n : ℕ) → IsFirstTooManyChild types state x wanted n → ⊥
  no_first x wanted children h n first = let e = (h n).1 first in cc

  -- where it answers with a fault, that says the first one, or nothing
  pub class_told : {A : Type 0} (x : ℕ) (wanted : Ty) (fault : SplitFault)
      → ((n : ℕ) → (◌≡◌ {A = Result A SplitFault} (Err fault) (Err (TooManyIds n))) ↔ IsFirstTooManyChild types state x wanted n)
      → HasPlanChildren types state (by_class x wanted) (Err (fault_of_split fault))
  class_told x wanted (TooManyIds n) h = class_crowded x wanted n ((h n).0 refl)
  class_told x wanted Memory h = tt

  pub class_expanded : (x : ℕ) (wanted : Ty) (wholes children : List GraphChild) → AreClassChildren types state x wanted wholes
      → ((n : ℕ) → IsFirstTooManyChild types state x wanted n → ⊥)
      → AllZip IsLean wholes children → AreExpanded types state (by_class x wanted) children
  class_expanded x wanted wholes children h none z =
      let counts = case_counts types state (cases_of types h.bound wanted) in
      record {
        few =
            subst (λ (c : Option Cell). AreFew (class_counts types state wanted c)) (sym h.was)
            (All-from_recursion IsFew counts
            (few_unless counts (λ n first. none n (record { bound = h.bound; shape = h.shape; was = h.was; first = first }))));
        wholes = wholes;
        are = h;
        lean = z;
      }

  -- ---- by whether two ids are one

  two_counts : (count k : ℕ) (b : Bool) → nat_le count 513 ≡ b → most_ids < count → k ≡ (if b then 1 else 0)
      → IsFirstTooMany ((count - 1) ∷ count ∷ []) k
  two_counts count k true f m e = subst (IsFirstTooMany ((count - 1) ∷ count ∷ [])) (sym e)
      (second_is (count - 1) count [] (omega (arith, leb-true count 513 f)) m)
  two_counts count k false f m e = subst (IsFirstTooMany ((count - 1) ∷ count ∷ [])) (sym e)
      (first_is (count - 1) (count ∷ []) (omega (arith, leb-false count 513 f)))

  crowded : (sub : Ty → Ty → Bool) (x y : ℕ) (b : Bool) (pairs : List (Option (ℕ × ℕ) × AbstractState))
      → IsEqualChild sub state x y b pairs → (count k : ℕ) → most_ids < count
      → k ≡ (if (length pairs == 2) && nat_le count 513 then 1 else 0) → IsFirstTooMany (if b then (count - 1) ∷ count ∷ [] else count
      ∷ []) k
  crowded sub x y true _ (both stays goes merged apart p s i a) count k m e = two_counts count k (nat_le count 513) refl m e
  crowded sub x y false _ (alone apart a) count k m e = subst (IsFirstTooMany (count ∷ [])) (sym e) (first_is count [] m)

  at_cells : (x y : ℕ) (left right : Cell) (P : List ℕ → Type 0) → cell_at state x ≡ Some left → cell_at state y ≡ Some right
      → P (equal_counts types state (Some left) (Some right))
      → P (equal_counts types state (cell_at state x) (cell_at state y))
  at_cells x y left right P e f h =
      subst (λ (c : Option Cell). P (equal_counts types state c (cell_at state y))) (sym e)
      (subst (λ (c : Option Cell). P (equal_counts types state (Some left) c)) (sym f) h)

  pub equal_crowded : (x y : ℕ) (children : List GraphChild) (k many count : ℕ) → AreEqualAnswers types.sub state x y children
      → most_ids < count → many ≡ length children
      → count ≡ length state.cells → k ≡ (if (many == 2) && nat_le count 513 then 1 else 0)
      → IsFirstTooMany (equal_counts types state (cell_at state x) (cell_at state y)) k
  equal_crowded x y children k many count h m e f is =
      let long : many ≡ length h.pairs = e ∙ ap length h.is
      ∙ length-map h.pairs (λ (p : Option (ℕ × ℕ) × AbstractState). record { state = p.1; link = plain_link false p.0 }) in
      let first : k ≡ (if (length h.pairs == 2) && nat_le (length state.cells) 513 then 1 else 0) =
      is ∙ ap (λ (n : ℕ). if (n == 2) && nat_le count 513 then 1 else 0) long
      ∙ ap (λ (n : ℕ). if (length h.pairs == 2) && nat_le n 513 then 1 else 0) f in
      at_cells x y h.are.left h.are.right (λ (counts : List ℕ). IsFirstTooMany counts k) h.are.left_is h.are.right_is
      (crowded types.sub x y (are_compatible types.sub h.are.left h.are.right) h.pairs h.are.are (length state.cells) k
      (omega (arith, m, f)) first)

  few_two : (count : ℕ) (b : Bool) → count ≤ most_ids → AreFew (if b then (count - 1) ∷ count ∷ [] else count ∷ [])
  few_two count true l = All-from_recursion IsFew ((count - 1) ∷ count ∷ []) (omega (arith, l), (l, tt))
  few_two count false l = All-from_recursion IsFew (count ∷ []) (l, tt)

  pub equal_expanded : (x y : ℕ) (wholes children : List GraphChild) → length state.cells ≤ most_ids
      → AreEqualAnswers types.sub state x y wholes → AllZip IsLean wholes children
      → AreExpanded types state (by_equal x y) children
  equal_expanded x y wholes children l h z =
      record {
        few = at_cells x y h.are.left h.are.right AreFew h.are.left_is h.are.right_is
            (few_two (length state.cells) (are_compatible types.sub h.are.left h.are.right) l);
        wholes = wholes;
        are = h;
        lean = z;
      }
