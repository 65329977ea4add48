-- Two ints fall in a case of each comparison.
use Rattle.std.proofs.Common.{◌≡◌, ℤ, pos, ◌+ℤ◌, ◌-ℤ◌, ◌≤ℤ◌, ◌<ℤ◌, Bool, true, false, cond, [], ◌∷◌, refl, sym, ap, subst, inl, inr, arith}
use Rattle.std.specs.Prelude.{int_le, int_lt, IsSomeAnd, not, ◌⊎◌}
use Rattle.std.specs.Ordering.{int_eq}
use Rattle.std.specs.List.{Any}
use Rattle.std.specs.Int.{int_max, int_min}
use Rattle.std.proofs.lemmas.Int.{ints, clamps, by_lt_z}
use Rattle.std.proofs.lemmas.Bool.Decides.{Decides-int_eq}
use Rattle.std.proofs.lemmas.Bool.{false_from_ne_true}
use Rattle.jvm_values.proofs.list_views.Orders.{int_le_from, int_eq_from}
use Rattle.lin_core.specs.Intervals.{Bounds, IsIn}
use Rattle.jvm_values.specs.Ints.{cond_holds}
use Rattle.jvm_values.specs.declared.ints.Cond.{Cond}
use Rattle.jvm_values.specs.declared.ints.Cond.TheVariants.{Eq, Ne, Lt, Ge, Gt, Le}
use Rattle.abs_ints.specs.Cases.{AllTrueOf}
use Rattle.abs_ints.specs.Comparing.{standing_so, exchanged, row_of, related, both_of, cases_between, cases_of_one, compared}
use Rattle.abs_ints.specs.Comparing.{GoesBetween, FallsBetween}
use Rattle.abs_ints.specs.declared.cases.Way.{Way}
use Rattle.abs_ints.specs.declared.cases.Way.TheVariants.{Taken, Next}
use Rattle.abs_ints.specs.declared.relations.Relation.{Relation}
use Rattle.abs_ints.specs.declared.relations.Relation.TheVariants.{Equal, Below, AtMost, Above, AtLeast}
use Rattle.abs_ints.proofs.Covering.{in_interval, in_meet, no_rows, more_rows, covers_between, any_first, any_rest}

-- how two numbers stand
abbrev Stands : Relation → ℤ → ℤ → Type 0
Stands Equal m n = m ≡ n
Stands Below m n = m <ℤ n
Stands AtMost m n = m ≤ℤ n
Stands Above m n = n <ℤ m
Stands AtLeast m n = n ≤ℤ m

stands_exchanged : (r : Relation) (m n : ℤ) → Stands r m n → Stands (exchanged r) n m
stands_exchanged Equal m n h = sym h
stands_exchanged Below m n h = h
stands_exchanged AtMost m n h = h
stands_exchanged Above m n h = h
stands_exchanged AtLeast m n h = h

in_standing : (r : Relation) (a b : Bounds) (m n : ℤ) → IsIn m a → IsIn n b → Stands r m n → IsSomeAnd (standing_so r a b) (λ x. IsIn m x)
in_standing Equal a b m n p q h = in_meet m a b p (omega (arith, ints), omega (arith, ints))
in_standing Below a b m n p q h = in_interval m a.lo (int_min a.hi (b.hi -ℤ pos 1)) (omega (arith, ints)) (omega (arith, ints, clamps))
in_standing AtMost a b m n p q h = in_interval m a.lo (int_min a.hi b.hi) (omega (arith, ints)) (omega (arith, ints, clamps))
in_standing Above a b m n p q h = in_interval m (int_max a.lo (b.lo +ℤ pos 1)) a.hi (omega (arith, ints, clamps)) (omega (arith, ints))
in_standing AtLeast a b m n p q h = in_interval m (int_max a.lo b.lo) a.hi (omega (arith, ints, clamps)) (omega (arith, ints))

row_stands : (r : Relation) (m n : ℤ) → Stands r m n → AllTrueOf m n (pos 0) (row_of r ∷ [])
row_stands Equal m n h = more_rows m n (pos 0) (row_of Equal) [] (omega (arith, ints)) (no_rows m n (pos 0))
row_stands Below m n h = more_rows m n (pos 0) (row_of Below) [] (omega (arith, ints)) (no_rows m n (pos 0))
row_stands AtMost m n h = more_rows m n (pos 0) (row_of AtMost) [] (omega (arith, ints)) (no_rows m n (pos 0))
row_stands Above m n h = more_rows m n (pos 0) (row_of Above) [] (omega (arith, ints)) (no_rows m n (pos 0))
row_stands AtLeast m n h = more_rows m n (pos 0) (row_of AtLeast) [] (omega (arith, ints)) (no_rows m n (pos 0))

-- numbers that stand so fall in the case of the relation
in_relation : (condition : Cond) (r : Relation) (way : Way) (a b : Bounds) (m n : ℤ) → IsIn m a → IsIn n b → Stands r m n
    → GoesBetween way condition m n → IsSomeAnd (related r way a b) (FallsBetween condition m n)
in_relation condition r way a b m n p q h goes =
    covers_between (FallsBetween condition m n) way (standing_so r a b) (standing_so (exchanged r) b a) (row_of r ∷ []) m n
    (in_standing r a b m n p q h) (in_standing (exchanged r) b a n m q p (stands_exchanged r m n h))
    (λ x y i j. record { left_in = i; right_in = j; rows_hold = row_stands r m n h; way_taken = goes })

-- ---- how two numbers stand, and what the conditions say

data Order (m n : ℤ) : Type 0 where
  less : m <ℤ n → Order m n
  same : m ≡ n → Order m n
  more : n <ℤ m → Order m n

order_of : (m n : ℤ) → Order m n
order_of m n =
    by_lt_z m n (λ h. less h) (λ h. by_lt_z n m (λ k. more k) (λ k. same (omega (arith, ints))))

equal_false : (m n : ℤ) → (m ≡ n → ⊥) → int_eq m n ≡ false
equal_false m n h = false_from_ne_true (int_eq m n) (λ t. h ((Decides-int_eq m n).0 t))

apart_less : (m n : ℤ) → m <ℤ n → int_eq m n ≡ false
apart_less m n h = equal_false m n (λ e. omega (arith, ints))

apart_more : (m n : ℤ) → n <ℤ m → int_eq m n ≡ false
apart_more m n h = equal_false m n (λ e. omega (arith, ints))

is_less : (m n : ℤ) → m <ℤ n → int_lt m n ≡ true
is_less m n h = let e : true ≡ int_lt m n = omega (arith, ints) in sym e

is_not_less : (m n : ℤ) → n ≤ℤ m → int_lt m n ≡ false
is_not_less m n h = let e : false ≡ int_lt m n = omega (arith, ints) in sym e

is_not_at_most : (m n : ℤ) → n <ℤ m → int_le m n ≡ false
is_not_at_most m n h = let e : false ≡ int_le m n = omega (arith, ints) in sym e

-- ---- the conditions

covers_eq : (a b : Bounds) (m n : ℤ) → IsIn m a → IsIn n b → Order m n → Any (FallsBetween Eq m n) (cases_between Eq a b)
covers_eq a b m n p q (same h) = any_first _ (related Equal Taken a b) _ (in_relation Eq Equal Taken a b m n p q h (int_eq_from m n h))
covers_eq a b m n p q (less h) = any_rest _ (related Equal Taken a b) _
    (any_first _ (related Below Next a b) _ (in_relation Eq Below Next a b m n p q h (apart_less m n h)))
covers_eq a b m n p q (more h) = any_rest _ (related Equal Taken a b) _
    (any_rest _ (related Below Next a b) _
    (any_first _ (related Above Next a b) _ (in_relation Eq Above Next a b m n p q h (apart_more m n h))))

covers_ne : (a b : Bounds) (m n : ℤ) → IsIn m a → IsIn n b → Order m n → Any (FallsBetween Ne m n) (cases_between Ne a b)
covers_ne a b m n p q (less h) = any_first _ (related Below Taken a b) _
    (in_relation Ne Below Taken a b m n p q h (ap not (apart_less m n h)))
covers_ne a b m n p q (more h) = any_rest _ (related Below Taken a b) _
    (any_first _ (related Above Taken a b) _ (in_relation Ne Above Taken a b m n p q h (ap not (apart_more m n h))))
covers_ne a b m n p q (same h) = any_rest _ (related Below Taken a b) _
    (any_rest _ (related Above Taken a b) _
    (any_first _ (related Equal Next a b) _ (in_relation Ne Equal Next a b m n p q h (ap not (int_eq_from m n h)))))

-- a condition with a relation that it consists of, and one that breaks it
covers_two : (condition : Cond) (holding failing : Relation) (first second : Way) (a b : Bounds) (m n : ℤ) → IsIn m a → IsIn n b
    → (Stands holding m n × GoesBetween first condition m n) ⊎ (Stands failing m n × GoesBetween second condition m n)
    → Any (FallsBetween condition m n) (both_of (related holding first a b) (related failing second a b))
covers_two condition holding failing first second a b m n p q (inl h) = any_first _ (related holding first a b) _
    (in_relation condition holding first a b m n p q h.0 h.1)
covers_two condition holding failing first second a b m n p q (inr h) = any_rest _ (related holding first a b) _
    (any_first _ (related failing second a b) _ (in_relation condition failing second a b m n p q h.0 h.1))

lt_or_ge : (m n : ℤ) → (Stands Below m n × int_lt m n ≡ true) ⊎ (Stands AtLeast m n × int_lt m n ≡ false)
lt_or_ge m n = by_lt_z m n (λ h. inl (h, is_less m n h)) (λ h. inr (h, is_not_less m n h))

ge_or_lt : (m n : ℤ) → (Stands AtLeast m n × int_le n m ≡ true) ⊎ (Stands Below m n × int_le n m ≡ false)
ge_or_lt m n = by_lt_z m n (λ h. inr (h, is_not_at_most n m h)) (λ h. inl (h, int_le_from n m h))

gt_or_le : (m n : ℤ) → (Stands Above m n × int_lt n m ≡ true) ⊎ (Stands AtMost m n × int_lt n m ≡ false)
gt_or_le m n = by_lt_z n m (λ h. inl (h, is_less n m h)) (λ h. inr (h, is_not_less n m h))

le_or_gt : (m n : ℤ) → (Stands AtMost m n × int_le m n ≡ true) ⊎ (Stands Above m n × int_le m n ≡ false)
le_or_gt m n = by_lt_z n m (λ h. inr (h, is_not_at_most m n h)) (λ h. inl (h, int_le_from m n h))

covers_cond : (condition : Cond) (a b : Bounds) (m n : ℤ) → IsIn m a → IsIn n b
    → Any (FallsBetween condition m n) (cases_between condition a b)
covers_cond Eq a b m n p q = covers_eq a b m n p q (order_of m n)
covers_cond Ne a b m n p q = covers_ne a b m n p q (order_of m n)
covers_cond Lt a b m n p q = covers_two Lt Below AtLeast Taken Next a b m n p q (lt_or_ge m n)
covers_cond Ge a b m n p q = covers_two Ge AtLeast Below Taken Next a b m n p q (ge_or_lt m n)
covers_cond Gt a b m n p q = covers_two Gt Above AtMost Taken Next a b m n p q (gt_or_le m n)
covers_cond Le a b m n p q = covers_two Le AtMost Above Taken Next a b m n p q (le_or_gt m n)

goes_with_itself : (condition : Cond) (m : ℤ) → GoesBetween (cond (cond_holds condition (pos 0) (pos 0)) Taken Next) condition m m
goes_with_itself Eq m = int_eq_from m m refl
goes_with_itself Ne m = ap not (int_eq_from m m refl)
goes_with_itself Lt m = is_not_less m m (omega (arith, ints))
goes_with_itself Ge m = int_le_from m m (omega (arith, ints))
goes_with_itself Gt m = is_not_less m m (omega (arith, ints))
goes_with_itself Le m = int_le_from m m (omega (arith, ints))

covers_one : (condition : Cond) (a b : Bounds) (m : ℤ) → IsIn m a → IsIn m b
    → Any (FallsBetween condition m m) (cases_of_one condition a b)
covers_one condition a b m p q = (
  0,
  _,
  omega arith,
  refl,
  record {
    left_in = p;
    right_in = q;
    rows_hold = no_rows m m (pos 0);
    way_taken = goes_with_itself
        condition m;
  },
)

-- two ints, equal ones where both are one, fall in a case of their comparison
pub compared_covers : (condition : Cond) (one : Bool) (a b : Bounds) (m n : ℤ) → IsIn m a → IsIn n b → (one ≡ true → m ≡ n)
    → Any (FallsBetween condition m n) (compared condition one a b)
compared_covers condition true a b m n p q h =
    let e : m ≡ n = h refl in
    let P : ℤ → Type 0 = λ z. Any (FallsBetween condition m z) (cases_of_one condition a b) in
    subst P e (covers_one condition a b m p (subst (λ (z : ℤ). IsIn z b) (sym e) q))
compared_covers condition false a b m n p q h = covers_cond condition a b m n p q
