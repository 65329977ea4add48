-- Plans with splits: what they name is there, and what they split can be split.
use Rattle.std.proofs.Common.{◌≡◌, ◌∙◌, ◌<◌, ◌+◌, ℕ, zero, suc, Bool, true, false, not, ◌&&◌}
use Rattle.std.proofs.Common.{if◌then◌else◌, List, [], ◌∷◌, ◌++◌, take, drop, reverse, map, Option, Some, None, slice_get}
use Rattle.std.proofs.Common.{slice_index_or, refl, sym, ap, subst}
use Rattle.std.specs.Prelude.{slice_set, replicate}
use Rattle.std.specs.List.{AllByRecursion, find}
use Rattle.std.specs.Option.{option_map_or}
use Rattle.std.proofs.lemmas.Bool.{false≢true, and_parts}
use Rattle.std.proofs.lemmas.List.{reverse-append}
use Rattle.std.proofs.lemmas.Option.{none-some}
use Rattle.list_views.proofs.Quantified.{all_joined}
use Rattle.jvm_values.specs.declared.typing.PlaceType.{PlaceType}
use Rattle.jvm_values.specs.declared.typing.PlaceType.TheVariants as places
use Rattle.jvm_values.specs.Subtyping.{class_type}
use Rattle.jvm_values.specs.TypedHeaps.{WorldTypes}
use Rattle.jvm_values.proofs.Options.{some_is}
use Rattle.abs_cells.specs.declared.cells.Cell.{Cell}
use Rattle.abs_cells.specs.declared.cells.Cell.TheVariants as cells
use Rattle.abs_cells.specs.AbstractStates.{AbstractState}
use Rattle.abs_cells.specs.Cells.{is_known, is_of_sort, cell_at}
use Rattle.abs_cells.specs.PairLists.{has}
use Rattle.abs_cells.specs.Sound.{given_ids}
use Rattle.abs_turns.specs.abs_heap.Answers.{IsNullable, IsObjectBelow}
use Rattle.abs_turns.specs.op_forms.Forms.{Form}
use Rattle.abs_turns.specs.op_forms.Forms.Form.{New}
use Rattle.abs_turns.specs.Plans.{Plan, by_null, no_child}
use Rattle.abs_turns.specs.Needs.{Passing, passes, fails, splits, passes_if, passing, passing_id, after_test, tested}
use Rattle.abs_turns.specs.Needs.{may_be_null, need_null, is_unknown, known_partner, split_unknown, split_below, need_class}
use Rattle.abs_turns.specs.GoodPlans.{IsGoodPlan}

-- ---- lists

pub all_taken : {X : Type 0} (P : X → Type 0) (n : ℕ) (xs : List X) → AllByRecursion P xs → AllByRecursion P (take n xs)
all_taken P zero xs a = tt
all_taken P (suc n) [] a = tt
all_taken P (suc n) (x ∷ xs) a = (a.0, all_taken P n xs a.1)

pub all_dropped : {X : Type 0} (P : X → Type 0) (n : ℕ) (xs : List X) → AllByRecursion P xs → AllByRecursion P (drop n xs)
all_dropped P zero xs a = a
all_dropped P (suc n) [] a = tt
all_dropped P (suc n) (x ∷ xs) a = all_dropped P n xs a.1

pub all_turned : {X : Type 0} (P : X → Type 0) (xs : List X) → AllByRecursion P xs → AllByRecursion P (reverse xs)
all_turned P [] a = tt
all_turned P (x ∷ xs) a = subst (AllByRecursion P) (sym (reverse-append (x ∷ []) xs))
    (all_joined P (reverse xs) (x ∷ []) (all_turned P xs a.1) (a.0, tt))

pub got : {X : Type 0} (P : X → Type 0) (xs : List X) (n : ℕ) (x : X) → AllByRecursion P xs → slice_get xs n ≡ Some x → P x
got P [] n x a e = absurd (none-some x e)
got P (y ∷ xs) zero x a e = subst P (some_is e) a.0
got P (y ∷ xs) (suc n) x a e = got P xs n x a.1 e

pub first_or : {X : Type 0} (P : X → Type 0) (xs : List X) (d : X) → AllByRecursion P xs → P d → P (slice_index_or xs 0 d)
first_or P [] d a h = h
first_or P (x ∷ xs) d a h = a.0

pub given_set : (P : ℕ → Type 0) (ids : List ℕ) (count : ℕ) → AllByRecursion P ids
    → AllByRecursion P (given_ids (map Some ids ++ replicate count None))
given_set P [] zero a = tt
given_set P [] (suc count) a = given_set P [] count a
given_set P (x ∷ ids) count a = (a.0, given_set P ids count a.1)

found_holds : {X : Type 0} (p : X → Bool) (xs : List X) (x : X) → find p xs ≡ Some x → p x ≡ true
found_holds p [] x e = absurd (none-some x e)
found_holds p (y ∷ xs) x e = at (p y) refl e (λ f. found_holds p xs x f)
  where
    at : (b : Bool) → p y ≡ b → (if b then Some y else find p xs) ≡ Some x → (find p xs ≡ Some x → p x ≡ true) → p x ≡ true
    at true h f rest = ap p (sym (some_is f)) ∙ h
    at false h f rest = rest f

pub ids_set : (P : ℕ → Type 0) (ids : List ℕ) (n x : ℕ) → AllByRecursion P ids → P x → AllByRecursion P (slice_set ids n x)
ids_set P [] n x a p = tt
ids_set P (y ∷ ids) zero x a p = (p, a.1)
ids_set P (y ∷ ids) (suc n) x a p = (a.0, ids_set P ids n x a.1 p)

pub either : (P : Plan → Type 0) (b : Bool) (one other : Plan) → (b ≡ true → P one) → (b ≡ false → P other) → P (if b then one else other)
either P true one other h k = h refl
either P false one other h k = k refl

pub may_be : {X : Type 0} (P : Plan → Type 0) (f : X → Plan) (o : Option X) → ((x : X) → o ≡ Some x → P (f x)) → P no_child
    → P (option_map_or f o no_child)
may_be P f None h n = n
may_be P f (Some x) h n = h x refl

-- ---- splits

null_split : (state : AbstractState) (x : ℕ) (found : Option Cell) → cell_at state x ≡ found → may_be_null found ≡ true
    → IsNullable state x
null_split state x None e h = absurd (false≢true h)
null_split state x (Some (cells.Int interval)) e h = absurd (false≢true h)
null_split state x (Some cells.Null) e h = absurd (false≢true h)
null_split state x (Some (cells.Obj class ids)) e h = absurd (false≢true h)
null_split state x (Some (cells.Nums kind len)) e h = absurd (false≢true h)
null_split state x (Some (cells.Refs element len shape)) e h = absurd (false≢true h)
null_split state x (Some (cells.Unk bound nullable shape)) e h = record {
  bound = bound;
  shape = shape;
  is = e
      ∙ ap (λ (n : Bool). Some (cells.Unk bound n shape)) h;
}

not_nullable : (n : Bool) → not n ≡ true → n ≡ false
not_nullable true e = absurd (false≢true e)
not_nullable false e = refl

class_split : (state : AbstractState) (x : ℕ) (found : Option Cell) → cell_at state x ≡ found → is_unknown found ≡ true
    → IsObjectBelow state x
class_split state x None e h = absurd (false≢true h)
class_split state x (Some (cells.Int interval)) e h = absurd (false≢true h)
class_split state x (Some cells.Null) e h = absurd (false≢true h)
class_split state x (Some (cells.Obj class ids)) e h = absurd (false≢true h)
class_split state x (Some (cells.Nums kind len)) e h = absurd (false≢true h)
class_split state x (Some (cells.Refs element len shape)) e h = absurd (false≢true h)
class_split state x (Some (cells.Unk bound nullable shape)) e h =
    record { bound = bound; shape = shape; is = e ∙ ap (λ (n : Bool). Some (cells.Unk bound n shape)) (not_nullable nullable h) }

no_splits : (b : Bool) → passes_if b fails ≡ splits → ⊥
no_splits true e = cc
no_splits false e = cc

nullable_splits : (b nullable : Bool) → passes_if b (if nullable then splits else fails) ≡ splits → nullable ≡ true
nullable_splits true nullable e = cc
nullable_splits false true e = refl
nullable_splits false false e = cc

operand_split : (types : WorldTypes) (state : AbstractState) (place : PlaceType) (x : ℕ) (found : Option Cell) → cell_at state x ≡ found
    → option_map_or (passing types place) found passes ≡ splits → IsNullable state x
operand_split types state place x None e h = cc
operand_split types state place x (Some (cells.Int interval)) e h = cc
operand_split types state place x (Some cells.Null) e h = cc
operand_split types state place x (Some (cells.Obj class ids)) e h = absurd (no_splits _ h)
operand_split types state place x (Some (cells.Nums kind len)) e h = absurd (no_splits _ h)
operand_split types state place x (Some (cells.Refs element len shape)) e h = absurd (no_splits _ h)
operand_split types state place x (Some (cells.Unk bound nullable shape)) e h =
    record { bound = bound; shape = shape; is = e ∙ ap (λ (n : Bool). Some (cells.Unk bound n shape)) (nullable_splits _ nullable h) }

module _ (types : WorldTypes) (state : AbstractState) where
  abbrev GoodPlan : Plan → Type 0
  GoodPlan = IsGoodPlan types state

  pub need_null_good : (x : ℕ) (plan : Plan) → GoodPlan plan → GoodPlan (need_null state x plan)
  need_null_good x plan h = either GoodPlan (may_be_null (cell_at state x)) (by_null x) plan
      (null_split state x (cell_at state x) refl) (λ e. h)

  known_apart : (x y : ℕ) → IsObjectBelow state x → is_of_sort is_known (cell_at state y) ≡ true → x ≡ y → ⊥
  known_apart x y below h e = false≢true (sym (ap (is_of_sort is_known) (ap (cell_at state) (sym e) ∙ below.is)) ∙ h)

  pub split_below_good : (x : ℕ) (place : PlaceType) → is_unknown (cell_at state x) ≡ true → GoodPlan (split_below state x place)
  split_below_good x places.Unset u = tt
  split_below_good x places.Int u = tt
  split_below_good x places.Null u = tt
  split_below_good x (places.Ref t) u = at (known_partner state x) refl
    where
      at : (found : Option ℕ) → known_partner state x ≡ found → GoodPlan (split_unknown x t found)
      at None e = class_split state x (cell_at state x) refl u
      at (Some y) e =
          let both = and_parts (is_of_sort is_known (cell_at state y)) (has x y state.eq)
          (found_holds (λ (other : ℕ). is_of_sort is_known (cell_at state other) && has x other state.eq)
          (map (λ (c : ℕ × Cell). c.0) state.cells) y e) in
          (both.1, known_apart x y (class_split state x (cell_at state x) refl u) both.0)

  pub need_class_good : (x : ℕ) (place : PlaceType) (plan : Plan) → GoodPlan plan → GoodPlan (need_class state x place plan)
  need_class_good x place plan h = either GoodPlan (is_unknown (cell_at state x)) (split_below state x place) plan
      (split_below_good x place) (λ e. h)

  pub tested_good : (operands : List (PlaceType × ℕ)) (plan : Plan) → GoodPlan plan → GoodPlan (tested types state operands plan)
  tested_good [] plan h = h
  tested_good (operand ∷ operands) plan h = at (passing_id types state operand.0 operand.1) refl (tested_good operands plan h)
    where
      at : (passing : Passing) → passing_id types state operand.0 operand.1 ≡ passing → GoodPlan (tested types state operands plan)
          → GoodPlan (after_test passing operand.1 (tested types state operands plan))
      at passes e k = k
      at fails e k = tt
      at splits e k = operand_split types state operand.0 operand.1 (cell_at state operand.1) refl e

-- ---- rows

-- a class that is made is one of the world's
abbrev pub NamesClasses : WorldTypes → Form → Type 0
NamesClasses types (New t) = (class : ℕ) × ((t ≡ class_type class) × (class < types.classes))
NamesClasses types _ = Unit {0}
