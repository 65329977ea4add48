-- Two ints fall in the case of their product.
use Rattle.std.proofs.Common.{◌≡◌, ℕ, suc, ◌+◌, ◌*◌, ◌≤◌, ℤ, pos, negsuc, ◌+ℤ◌, ◌*ℤ◌, ◌≤ℤ◌, neg_ℤ, Bool, true, false, cond, Option}
use Rattle.std.proofs.Common.{Some, None, List, [], ◌∷◌, w32, refl, sym, ap, ◌∙◌, subst, arith}
use Rattle.std.specs.Prelude.{IsSomeAnd}
use Rattle.std.specs.List.{Any}
use Rattle.std.specs.Int.{int_wrap, int_min, int_max}
use Rattle.std.proofs.Math.Nat.{mul-le-mul_left}
use Rattle.std.proofs.lemmas.Int.{ints, clamps}
use lib.IntN.{*ℤ_comm}
use borrow.Author.Differences.{up, down, product_is}
use Rattle.jvm_values.proofs.list_views.Ring.{neg_times}
use Rattle.lin_core.specs.Intervals.{Bounds, IsIn}
use Rattle.jvm_values.specs.declared.ints.IntOp.TheVariants.{Mul}
use Rattle.abs_ints.specs.Cases.{AllTrueOf, inside}
use Rattle.abs_ints.specs.Falling.{FallsUnder}
use Rattle.abs_ints.specs.IntIntervals.{is_single, multiples_of, join_of, hull_of, are_ints, ints_or_all}
use Rattle.abs_ints.specs.Products.{times_left, times_right, factor_rows, product_rows, product_cases}
use Rattle.abs_ints.proofs.Covering.{no_rows, more_rows, any_first}
use Rattle.abs_ints.proofs.OperatorCases.{AreTrue, if_either, single_is, in_inside, in_ints_or_all, unwrapped}

-- multiples keep the order, or turn it
rises : (n : ℕ) (x y : ℤ) → x ≤ℤ y → (pos n *ℤ x) ≤ℤ (pos n *ℤ y)
rises n x y h =
    let k : up x + down y ≤ up y + down x = omega (arith, ints) in
    omega (arith, ints, mul-le-mul_left n k, product_is (pos n) x, product_is (pos n) y)

falls : (n : ℕ) (x y : ℤ) → x ≤ℤ y → (negsuc n *ℤ y) ≤ℤ (negsuc n *ℤ x)
falls n x y h =
    let k : up x + down y ≤ up y + down x = omega (arith, ints) in
    omega (arith, ints, mul-le-mul_left (suc n) k, product_is (negsuc n) x, product_is (negsuc n) y)

-- numbers between the lesser and the greater of two
abbrev IsBetween : ℤ → ℤ → ℤ → Type 0
IsBetween z x y = (int_min x y ≤ℤ z) × (z ≤ℤ int_max x y)

in_order : (z x y : ℤ) → x ≤ℤ z → z ≤ℤ y → IsBetween z x y
in_order z x y l h = (omega (arith, ints, clamps), omega (arith, ints, clamps))

in_turned_order : (z x y : ℤ) → y ≤ℤ z → z ≤ℤ x → IsBetween z x y
in_turned_order z x y l h = (omega (arith, ints, clamps), omega (arith, ints, clamps))

-- a multiple of a number of an interval lies between those of the ends
pub multiple_in : (n x : ℤ) (a : Bounds) → IsIn x a → IsIn (n *ℤ x) (multiples_of n a)
multiple_in (pos n) x a p = in_order (pos n *ℤ x) (pos n *ℤ a.lo) (pos n *ℤ a.hi) (rises n a.lo x p.0) (rises n x a.hi p.1)
multiple_in (negsuc n) x a p = in_turned_order (negsuc n *ℤ x) (negsuc n *ℤ a.lo) (negsuc n *ℤ a.hi) (falls n x a.hi p.1)
    (falls n a.lo x p.0)

-- between two numbers each of which lies in an interval: in their join
squeezed : (z x y : ℤ) (s t : Bounds) → IsBetween z x y → IsIn x s → IsIn y t → IsIn z (join_of s t)
squeezed z x y s t b p q =
    let bl = b.0 in
    let bh = b.1 in
    let pl = p.0 in
    let ph = p.1 in
    let ql = q.0 in
    let qh = q.1 in
    (omega (arith, ints, clamps), omega (arith, ints, clamps))

pub product_in : (m n : ℤ) (a b : Bounds) → IsIn m a → IsIn n b → IsIn (m *ℤ n) (hull_of a b)
product_in m n a b p q =
    let turned : IsIn (m *ℤ n) (multiples_of n a) = subst (λ (z : ℤ). IsIn z (multiples_of n a)) (*ℤ_comm n m) (multiple_in n m a p) in
    let left : IsIn (n *ℤ a.lo) (multiples_of a.lo b) = subst (λ (z : ℤ). IsIn z (multiples_of a.lo b)) (*ℤ_comm a.lo n)
    (multiple_in a.lo n b q) in
    let right : IsIn (n *ℤ a.hi) (multiples_of a.hi b) = subst (λ (z : ℤ). IsIn z (multiples_of a.hi b)) (*ℤ_comm a.hi n)
    (multiple_in a.hi n b q) in
    squeezed (m *ℤ n) (n *ℤ a.lo) (n *ℤ a.hi) (multiples_of a.lo b) (multiples_of a.hi b) turned left right

-- ---- rows

pub times_left_true : (c m n r : ℤ) → r ≡ c *ℤ m → AllTrueOf m n r (times_left c ∷ [])
times_left_true c m n r e = more_rows m n r (times_left c) [] (omega (arith, ints, neg_times c m)) (no_rows m n r)

times_right_true : (c m n r : ℤ) → r ≡ c *ℤ n → AllTrueOf m n r (times_right c ∷ [])
times_right_true c m n r e = more_rows m n r (times_right c) [] (omega (arith, ints, neg_times c n)) (no_rows m n r)

factor_rows_true : (a b : Bounds) (m n r : ℤ) → IsIn m a → IsIn n b → r ≡ m *ℤ n → AreTrue m n r (factor_rows a b)
factor_rows_true a b m n r p q e =
    if_either (AreTrue m n r) (is_single b) (times_left b.lo ∷ []) _
    (λ t. times_left_true b.lo m n r (e ∙ *ℤ_comm m n ∙ ap (λ (z : ℤ). z *ℤ m) (sym (single_is b n t q)))) (λ _.
    if_either (AreTrue m n r) (is_single a) (times_right a.lo ∷ []) []
    (λ t. times_right_true a.lo m n r (e ∙ ap (λ (z : ℤ). z *ℤ n) (sym (single_is a m t p)))) (λ _. no_rows m n r))

pub product_covers : (a b : Bounds) (m n : ℤ) → IsIn m a → IsIn n b → Any (FallsUnder Mul m n) (product_cases a b)
product_covers a b m n p q =
    let i = product_in m n a b p q in
    any_first _ (inside a b (ints_or_all (hull_of a b)) (product_rows a b)) [] (
    in_inside Mul a b (ints_or_all (hull_of a b)) (product_rows a b) m n (int_wrap w32 (m *ℤ n)) p q refl refl
    (in_ints_or_all (m *ℤ n) (hull_of a b) i) (
    if_either (AreTrue m n (int_wrap w32 (m *ℤ n))) (are_ints (hull_of a b)) (factor_rows a b) []
    (λ t. factor_rows_true a b m n (int_wrap w32 (m *ℤ n)) p q (unwrapped (m *ℤ n) (hull_of a b) i t))
    (λ _. no_rows m n (int_wrap w32 (m *ℤ n)))
    )
    )
