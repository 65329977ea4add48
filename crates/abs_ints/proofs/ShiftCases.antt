-- Two ints fall in the case of each shift.
use Rattle.std.proofs.Common.{◌≡◌, ℕ, zero, suc, ◌+◌, ◌-◌, ◌*◌, ◌/◌, ◌%◌, ◌^◌, ◌<◌, ◌≤◌, ℤ, pos, negsuc, ◌+ℤ◌, ◌-ℤ◌, ◌*ℤ◌, ◌≤ℤ◌}
use Rattle.std.proofs.Common.{◌<ℤ◌, neg_ℤ, Bool, true, false, cond, Option, Some, None, List, [], ◌∷◌, FitsSigned, to_z, of_z}
use Rattle.std.proofs.Common.{to_z-of_z, w32, refl, sym, ap, ◌∙◌, subst, lit<, arith}
use Rattle.std.specs.Prelude.{IsSomeAnd, int_le, ◌==◌}
use Rattle.std.specs.List.{Any}
use Rattle.std.specs.Int.{int_wrap, int_min, int_max, int_shr}
use Rattle.std.proofs.Math.Nat.{div-le_self, div-mul-le_self, mod-lt, div-one, mul_comm, pow-le-pow_right}
use Rattle.std.proofs.lemmas.Nat.{pow_pos, le-div, shr_below, div-add-mod', mod_below}
use Rattle.std.proofs.lemmas.Int.{ints, clamps}
use Rattle.std.proofs.lemmas.Bool.Decides.{Decides-eqb}
use Rattle.jvm_values.proofs.IntRanges.{shift_near}
use lib.IntN.{*ℤ_comm}
use Rattle.jvm_values.proofs.list_views.Ring.{neg_times}
use Rattle.lin_core.specs.Intervals.{Bounds, IsIn, interval_of}
use Rattle.jvm_values.specs.Ints.{int_result, shift_count, int_shifted_left, int_shifted_right_with_zeros}
use Rattle.jvm_values.specs.declared.ints.IntOp.{IntOp}
use Rattle.jvm_values.specs.declared.ints.IntOp.TheVariants.{Shl, Shr, Ushr}
use Rattle.abs_ints.specs.Cases.{at_least_zero, is_zero, inside}
use Rattle.abs_ints.specs.Divisions.{dividend_rows}
use Rattle.abs_ints.specs.Falling.{FallsUnder, exact_result}
use Rattle.abs_ints.specs.IntIntervals.{all_ints, is_single, multiples_of, are_ints, ints_or_all}
use Rattle.abs_ints.specs.Products.{times_left}
use Rattle.abs_ints.specs.Shifts.{power_of, shifted_left_rows, shift_left_cases, shifted_right_by, shifted_right_rows}
use Rattle.abs_ints.specs.Shifts.{shifted_right, shift_right_case, shift_right_cases, zeros_case, shift_zeros_case}
use Rattle.abs_ints.specs.Shifts.{shift_zeros_cases}
use Rattle.abs_ints.specs.declared.cases.IntCase.{IntCase}
use Rattle.abs_ints.proofs.Covering.{in_interval, no_rows, more_rows, any_first}
use Rattle.abs_ints.proofs.OperatorCases.{AreTrue, if_either, single_is, in_inside, in_all, in_ints_or_all, unwrapped, dividend_rows_true}
use Rattle.abs_ints.proofs.ProductCases.{multiple_in, times_left_true}

-- a single shift count
count_is : (b : Bounds) (n : ℤ) → is_single b ≡ true → IsIn n b → shift_count b.lo ≡ shift_count n
count_is b n t q = ap shift_count (single_is b n t q)

-- ---- to the left

power_is : (b : Bounds) (n : ℤ) → is_single b ≡ true → IsIn n b → power_of b ≡ pos (2 ^ shift_count n)
power_is b n t q = ap (λ (k : ℕ). pos (2 ^ k)) (count_is b n t q)

shifted_in : (p m : ℤ) (a : Bounds) → IsIn m a → IsIn (m *ℤ p) (multiples_of p a)
shifted_in p m a i = subst (λ (z : ℤ). IsIn z (multiples_of p a)) (*ℤ_comm p m) (multiple_in p m a i)

shifted_rows_true : (p m n : ℤ) (a : Bounds) → IsIn m a
    → AreTrue m n (int_wrap w32 (m *ℤ p)) (cond (are_ints (multiples_of p a)) (times_left p ∷ []) [])
shifted_rows_true p m n a i =
    if_either (AreTrue m n (int_wrap w32 (m *ℤ p))) (are_ints (multiples_of p a)) (times_left p ∷ []) []
    (λ t. times_left_true p m n (int_wrap w32 (m *ℤ p)) (unwrapped (m *ℤ p) (multiples_of p a) (shifted_in p m a i) t
    ∙ *ℤ_comm m p)) (λ _. no_rows m n (int_wrap w32 (m *ℤ p)))

shift_left_by : (a b : Bounds) (m n p : ℤ) → IsIn m a → IsIn n b → pos (2 ^ shift_count n) ≡ p
    → IsSomeAnd (inside a b (ints_or_all (multiples_of p a)) (cond (are_ints (multiples_of p a)) (times_left p ∷ []) []))
    (FallsUnder Shl m n)
shift_left_by a b m n p i q e =
    in_inside Shl a b (ints_or_all (multiples_of p a)) (cond (are_ints (multiples_of p a)) (times_left p ∷ []) []) m n
    (int_wrap w32 (m *ℤ p)) i q (ap (λ (z : ℤ). Some (int_wrap w32 (m *ℤ z))) e) refl
    (in_ints_or_all (m *ℤ p) (multiples_of p a) (shifted_in p m a i)) (shifted_rows_true p m n a i)

pub shift_left_covers : (a b : Bounds) (m n : ℤ) → IsIn m a → IsIn n b → Any (FallsUnder Shl m n) (shift_left_cases a b)
shift_left_covers a b m n p q =
    any_first _ (cond (is_single b) (inside a b (ints_or_all (multiples_of (power_of b) a)) (shifted_left_rows a b))
    (inside a b (Some all_ints) [])) [] (
    if_either (λ (o : Option IntCase). IsSomeAnd o (FallsUnder Shl m n)) (is_single b)
    (inside a b (ints_or_all (multiples_of (power_of b) a)) (shifted_left_rows a b)) (inside a b (Some all_ints) [])
    (λ t. shift_left_by a b m n (power_of b) p q (sym (power_is b n t q))) (λ _.
    in_inside Shl a b (Some all_ints) [] m n (int_shifted_left m n) p q refl refl (in_all (m *ℤ pos (2 ^ shift_count n)))
    (no_rows m n (int_shifted_left m n)))
    )

-- ---- to the right

div_rises : (a b d : ℕ) → a ≤ b → 0 < d → a / d ≤ b / d
div_rises a b d h k = le-div (a / d) b d k (omega (arith, div-mul-le_self a d))

shr_rises : (x y : ℤ) (k : ℕ) → x ≤ℤ y → int_shr x k ≤ℤ int_shr y k
shr_rises (pos x) (pos y) k h = let d = div_rises x y (2 ^ k) (omega (arith, ints)) (pow_pos k) in omega (arith, ints)
shr_rises (pos x) (negsuc y) k h = absurd (omega (arith, ints))
shr_rises (negsuc x) (pos y) k h = omega (arith, ints)
shr_rises (negsuc x) (negsuc y) k h = let d = div_rises y x (2 ^ k) (omega (arith, ints)) (pow_pos k) in omega (arith, ints)

-- a number by another, rounded down, and what is left
div_low : (n p : ℕ) → 0 < p → p * (n / p) ≤ n
div_low n p h = omega (arith, div-mul-le_self n p)

div_high : (n p : ℕ) → 0 < p → n < p * (n / p) + p
div_high n p h = omega (arith, div-add-mod' n p, mod_below n p h)

low_row : (m : ℤ) (k : ℕ) → (pos (2 ^ k) *ℤ int_shr m k) ≤ℤ m
low_row (pos x) k = let h = div_low x (2 ^ k) (pow_pos k) in omega (arith, ints)
low_row (negsuc x) k = let h = div_high x (2 ^ k) (pow_pos k) in omega (arith, ints)

high_row : (m : ℤ) (k : ℕ) → m <ℤ (pos (2 ^ k) *ℤ int_shr m k +ℤ pos (2 ^ k))
high_row (pos x) k = let h = div_high x (2 ^ k) (pow_pos k) in omega (arith, ints)
high_row (negsuc x) k = let h = div_low x (2 ^ k) (pow_pos k) in omega (arith, ints)

rows_of_shift : (p m n r : ℤ) → (p *ℤ r) ≤ℤ m → m <ℤ (p *ℤ r +ℤ p) → AreTrue m n r (shifted_right_rows p)
rows_of_shift p m n r l h =
    more_rows m n r (at_least_zero (pos 1) (pos 0) (neg_ℤ p) (pos 0)) (at_least_zero (negsuc 0) (pos 0) p (p -ℤ pos 1) ∷ [])
    (omega (arith, ints, neg_times p r))
    (more_rows m n r (at_least_zero (negsuc 0) (pos 0) p (p -ℤ pos 1)) [] (omega (arith, ints)) (no_rows m n r))

shr_by : (op : IntOp) (a b : Bounds) (m n : ℤ) (k : ℕ) → IsIn m a → IsIn n b → int_result op m n ≡ Some (int_shr m k)
    → exact_result op m n ≡ None → IsSomeAnd (inside a b (shifted_right_by a k) (shifted_right_rows (pos (2 ^ k)))) (FallsUnder op m n)
shr_by op a b m n k p q is exact =
    in_inside op a b (shifted_right_by a k) (shifted_right_rows (pos (2 ^ k))) m n (int_shr m k) p q is exact
    (in_interval (int_shr m k) (int_shr a.lo k) (int_shr a.hi k) (shr_rises a.lo m k p.0) (shr_rises m a.hi k p.1))
    (rows_of_shift (pos (2 ^ k)) m n (int_shr m k) (low_row m k) (high_row m k))

nearer : (a : Bounds) (m r : ℤ) → IsIn m a → int_min m (pos 0) ≤ℤ r → r ≤ℤ int_max m (negsuc 0)
    → (int_min a.lo (pos 0) ≤ℤ r) × (r ≤ℤ int_max a.hi (negsuc 0))
nearer a m r p l h =
    let pl = p.0 in
    let ph = p.1 in
    (omega (arith, ints, clamps), omega (arith, ints, clamps))

no_higher : (m r : ℤ) → r ≤ℤ int_max m (negsuc 0) → pos 0 ≤ℤ m → r ≤ℤ m
no_higher m r h k = omega (arith, ints, clamps)

shr_any : (op : IntOp) (a b : Bounds) (m n : ℤ) → IsIn m a → IsIn n b → int_result op m n ≡ Some (int_shr m (shift_count n))
    → exact_result op m n ≡ None → IsSomeAnd (inside a b (shifted_right a) (dividend_rows a)) (FallsUnder op m n)
shr_any op a b m n p q is exact =
    let r : ℤ = int_shr m (shift_count n) in
    let near = shift_near m (shift_count n) in
    let i = nearer a m r p near.0 near.1 in
    in_inside op a b (shifted_right a) (dividend_rows a) m n r p q is exact
    (in_interval r (int_min a.lo (pos 0)) (int_max a.hi (negsuc 0)) i.0 i.1) (dividend_rows_true a m n r p (no_higher m r near.1))

right_covers : (op : IntOp) (a b : Bounds) (m n : ℤ) → IsIn m a → IsIn n b → int_result op m n ≡ Some (int_shr m (shift_count n))
    → exact_result op m n ≡ None → IsSomeAnd (shift_right_case a b) (FallsUnder op m n)
right_covers op a b m n p q is exact =
    if_either (λ (o : Option IntCase). IsSomeAnd o (FallsUnder op m n)) (is_single b)
    (inside a b (shifted_right_by a (shift_count b.lo)) (shifted_right_rows (power_of b)))
    (inside a b (shifted_right a) (dividend_rows a))
    (λ t. shr_by op a b m n (shift_count b.lo) p q (is ∙ ap (λ (k : ℕ). Some (int_shr m k)) (sym (count_is b n t q))) exact)
    (λ _. shr_any op a b m n p q is exact)

pub shift_right_covers : (a b : Bounds) (m n : ℤ) → IsIn m a → IsIn n b → Any (FallsUnder Shr m n) (shift_right_cases a b)
shift_right_covers a b m n p q = any_first _ (shift_right_case a b) [] (right_covers Shr a b m n p q refl refl)

-- ---- to the right, with zeros

positive_count : (k : ℕ) → (k == 0) ≡ false → 0 < k
positive_count zero t = absurd cc
positive_count (suc k) t = omega arith

natural_zeros : (m : ℤ) (k : ℕ) → IsIn m all_ints → pos 0 ≤ℤ m → to_z w32 (of_z w32 m / 2 ^ k) ≡ int_shr m k
natural_zeros (pos x) k f h = let l = div-le_self x (2 ^ k) in let fh = f.1 in omega (arith, ints)
natural_zeros (negsuc x) k f h = absurd (omega (arith, ints))

all_zeros : (m : ℤ) → IsIn m all_ints → to_z w32 (of_z w32 m / 2 ^ 0) ≡ m
all_zeros m f =
    let l = f.0 in
    let h = f.1 in
    ap (to_z w32) (div-one (of_z w32 m)) ∙ (omega (arith, ints))

bits_below : (m : ℤ) → IsIn m all_ints → of_z w32 m < 2 ^ 32
bits_below m f = let l = f.0 in let h = f.1 in omega (arith, ints)

-- a count from 1 to 31 leaves that many zeros above
some_zeros : (m : ℤ) (k : ℕ) → IsIn m all_ints → 0 < k → k < 32 → (pos 0 ≤ℤ to_z w32 (of_z w32 m / 2 ^ k))
    × (to_z w32 (of_z w32 m / 2 ^ k) ≤ℤ (pos (2 ^ (32 - k)) -ℤ pos 1))
some_zeros m k f h l =
    let whole : (32 - k) + k ≡ 32 = omega arith in
    let below : of_z w32 m < 2 ^ ((32 - k) + k) = subst (λ (j : ℕ). of_z w32 m < 2 ^ j) (sym whole) (bits_below m f) in
    let small = shr_below (of_z w32 m) (32 - k) k below in
    let fewer : 32 - k ≤ 31 = omega arith in
    let power : 2 ^ (32 - k) ≤ 2 ^ 31 = pow-le-pow_right (lit< tt) fewer in
    (omega (arith, ints), omega (arith, ints))

count_below : (n : ℤ) → shift_count n < 32
count_below n = mod-lt (of_z w32 n) (lit< tt)

zeros_by : (a b : Bounds) (m n : ℤ) (k : ℕ) → IsIn m all_ints → IsIn m a → IsIn n b → k ≡ shift_count n
    → IsSomeAnd (zeros_case a b k) (FallsUnder Ushr m n)
zeros_by a b m n k f p q e =
    let is : int_result Ushr m n ≡ Some (to_z w32 (of_z w32 m / 2 ^ k)) = ap (λ (j : ℕ). Some (to_z w32 (of_z w32 m / 2 ^ j))) (sym e) in
    if_either (λ (o : Option IntCase). IsSomeAnd o (FallsUnder Ushr m n)) (k == 0)
    (inside a b (Some a) (is_zero (negsuc 0) (pos 0) (pos 1) (pos 0) ∷ []))
    (inside a b (interval_of (pos 0) (pos (2 ^ (32 - k)) -ℤ pos 1)) []) (λ t.
    let none : k ≡ 0 = (Decides-eqb k 0).0 t in
    let same : to_z w32 (of_z w32 m / 2 ^ k) ≡ m = ap (λ (j : ℕ). to_z w32 (of_z w32 m / 2 ^ j)) none ∙ all_zeros m f in
    in_inside Ushr a b (Some a) (is_zero (negsuc 0) (pos 0) (pos 1) (pos 0) ∷ []) m n m p q (is ∙ ap (λ (z : ℤ). Some z) same) refl
    p (more_rows m n m (is_zero (negsuc 0) (pos 0) (pos 1) (pos 0)) [] (omega (arith, ints)) (no_rows m n m))) (λ t.
    let i = some_zeros m k f (positive_count k t) (subst (λ (j : ℕ). j < 32) (sym e) (count_below n)) in
    in_inside Ushr a b (interval_of (pos 0) (pos (2 ^ (32 - k)) -ℤ pos 1)) [] m n (to_z w32 (of_z w32 m / 2 ^ k)) p q is refl
    (in_interval (to_z w32 (of_z w32 m / 2 ^ k)) (pos 0) (pos (2 ^ (32 - k)) -ℤ pos 1) i.0 i.1)
    (no_rows m n (to_z w32 (of_z w32 m / 2 ^ k))))

pub shift_zeros_covers : (a b : Bounds) (m n : ℤ) → IsIn m all_ints → IsIn m a → IsIn n b
    → Any (FallsUnder Ushr m n) (shift_zeros_cases a b)
shift_zeros_covers a b m n f p q =
    any_first _ (shift_zeros_case a b) [] (
    if_either (λ (o : Option IntCase). IsSomeAnd o (FallsUnder Ushr m n)) (int_le (pos 0) a.lo) (shift_right_case a b)
    (cond (is_single b) (zeros_case a b (shift_count b.lo)) (inside a b (Some all_ints) [])) (λ t.
    let pl = p.0 in
    right_covers Ushr a b m n p q (ap (λ (z : ℤ). Some z) (natural_zeros m (shift_count n) f (omega (arith, ints)))) refl) (λ _.
    if_either (λ (o : Option IntCase). IsSomeAnd o (FallsUnder Ushr m n)) (is_single b) (zeros_case a b (shift_count b.lo))
    (inside a b (Some all_ints) []) (λ t. zeros_by a b m n (shift_count b.lo) f p q (count_is b n t q)) (λ _.
    in_inside Ushr a b (Some all_ints) [] m n (int_shifted_right_with_zeros m n) p q refl refl
    (omega (arith, ints), omega (arith, ints)) (no_rows m n (int_shifted_right_with_zeros m n))))
    )
