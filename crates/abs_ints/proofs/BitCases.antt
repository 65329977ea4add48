-- Two ints fall in the case of each operator on bits.
use Rattle.std.proofs.Common.{◌≡◌, ℕ, zero, suc, ◌+◌, ◌-◌, ◌^◌, ◌<◌, ◌≤◌, ℤ, pos, negsuc, ◌+ℤ◌, ◌-ℤ◌, ◌≤ℤ◌, ◌<ℤ◌, Bool, true, false}
use Rattle.std.proofs.Common.{cond, Option, Some, None, List, [], ◌∷◌, to_z, of_z, w32, refl, sym, ap, ◌∙◌, subst, lit<, arith}
use Rattle.std.specs.Prelude.{IsSomeAnd, int_le, bit_and, bit_or, bit_xor, ◌&&◌}
use Rattle.std.specs.List.{Any}
use Rattle.std.specs.Int.{int_min, int_max, int_bit_and, int_bit_or, int_bit_xor, leading_zeros}
use Rattle.std.proofs.lemmas.Nat.{and_le_l, and_le_r, or_lt, xor_lt, le_or_l, le_or_r, leading_length}
use Rattle.std.proofs.lemmas.Int.{ints, clamps}
use Rattle.std.proofs.lemmas.Bool.{and_parts}
use Rattle.jvm_values.proofs.list_views.Orders.{int_through}
use Rattle.lin_core.specs.Intervals.{Bounds, IsIn, interval_of}
use Rattle.jvm_values.specs.declared.ints.IntOp.TheVariants.{And, Or, Xor}
use Rattle.abs_ints.specs.Bits.{is_natural, below_left, below_right, and_case, and_cases, ones_over, or_case, or_cases, xor_case}
use Rattle.abs_ints.specs.Bits.{xor_cases}
use Rattle.abs_ints.specs.Cases.{IsTrueOf, at_least_zero, inside}
use Rattle.abs_ints.specs.Falling.{FallsUnder}
use Rattle.abs_ints.specs.IntIntervals.{all_ints, meet_of}
use Rattle.abs_ints.specs.declared.cases.IntCase.{IntCase}
use Rattle.abs_ints.proofs.Covering.{bounds, in_interval, in_meet, no_rows, more_rows, any_first}
use Rattle.abs_ints.proofs.OperatorCases.{AreTrue, if_either, in_inside}

-- 32 bits are some int
bits_in_all : (n : ℕ) → IsSomeAnd (Some all_ints) (λ x. IsIn (to_z w32 n) x)
bits_in_all n = (omega (arith, ints), omega (arith, ints))

-- ---- the bits that both have

and_left : (m : ℤ) (n : ℕ) → IsIn m all_ints → pos 0 ≤ℤ m → (pos 0 ≤ℤ to_z w32 (bit_and (of_z w32 m) n))
    × (to_z w32 (bit_and (of_z w32 m) n) ≤ℤ m)
and_left (pos x) n f h = let l = and_le_l x n in let k = f.1 in (omega (arith, ints), omega (arith, ints))
and_left (negsuc x) n f h = absurd (omega (arith, ints))

and_right : (m : ℕ) (n : ℤ) → IsIn n all_ints → pos 0 ≤ℤ n → (pos 0 ≤ℤ to_z w32 (bit_and m (of_z w32 n)))
    × (to_z w32 (bit_and m (of_z w32 n)) ≤ℤ n)
and_right m (pos y) f h = let l = and_le_r m y in let k = f.1 in (omega (arith, ints), omega (arith, ints))
and_right m (negsuc y) f h = absurd (omega (arith, ints))

left_true : (m n r : ℤ) → r ≤ℤ m → AreTrue m n r (below_left ∷ [])
left_true m n r h = more_rows m n r below_left [] (omega (arith, ints)) (no_rows m n r)

right_true : (m n r : ℤ) → r ≤ℤ n → AreTrue m n r (below_right ∷ [])
right_true m n r h = more_rows m n r below_right [] (omega (arith, ints)) (no_rows m n r)

left_row : (m n r : ℤ) → r ≤ℤ m → IsTrueOf m n r below_left
left_row m n r h = omega (arith, ints)

above_left : (m n r : ℤ) → m ≤ℤ r → IsTrueOf m n r (at_least_zero (negsuc 0) (pos 0) (pos 1) (pos 0))
above_left m n r h = omega (arith, ints)

above_right : (m n r : ℤ) → n ≤ℤ r → IsTrueOf m n r (at_least_zero (pos 0) (negsuc 0) (pos 1) (pos 0))
above_right m n r h = omega (arith, ints)

under_both : (r m n x y : ℤ) → r ≤ℤ m → r ≤ℤ n → m ≤ℤ x → n ≤ℤ y → r ≤ℤ int_min x y
under_both r m n x y h i j k = omega (arith, ints, clamps)

int_above : (r : ℤ) → pos 0 ≤ℤ r → negsuc 2147483647 ≤ℤ r
int_above r h = omega (arith, ints)

and_falls : (a b : Bounds) (m n : ℤ) → IsIn m all_ints → IsIn n all_ints → IsIn m a → IsIn n b
    → IsSomeAnd (and_case a b) (FallsUnder And m n)
and_falls a b m n f g p q =
    let P : Option IntCase → Type 0 = λ o. IsSomeAnd o (FallsUnder And m n) in
    let r : ℤ = int_bit_and w32 m n in
    let pl = p.0 in
    let ph = p.1 in
    let ql = q.0 in
    let qh = q.1 in
    if_either P (is_natural a && is_natural b)
    (inside a b (interval_of (pos 0) (int_min a.hi b.hi)) (below_left ∷ below_right ∷ [])) _ (λ t.
    let both = and_parts (is_natural a) (is_natural b) t in
    let one = both.0 in
    let two = both.1 in
    let i = and_left m (of_z w32 n) f (omega (arith, ints)) in
    let j = and_right (of_z w32 m) n g (omega (arith, ints)) in
    in_inside And a b (interval_of (pos 0) (int_min a.hi b.hi)) (below_left ∷ below_right ∷ []) m n r p q refl refl
    (in_interval r (pos 0) (int_min a.hi b.hi) i.0 (under_both r m n a.hi b.hi i.1 j.1 ph qh))
    (more_rows m n r below_left (below_right ∷ []) (left_row m n r i.1) (right_true m n r j.1))) (λ _.
    if_either P (is_natural a) (inside a b (interval_of (pos 0) a.hi) (below_left ∷ [])) _ (λ t.
    let i = and_left m (of_z w32 n) f (omega (arith, ints)) in
    in_inside And a b (interval_of (pos 0) a.hi) (below_left ∷ []) m n r p q refl refl
    (in_interval r (pos 0) a.hi i.0 (int_through r m a.hi i.1 ph)) (left_true m n r i.1)) (λ _.
    if_either P (is_natural b) (inside a b (interval_of (pos 0) b.hi) (below_right ∷ [])) _ (λ t.
    let j = and_right (of_z w32 m) n g (omega (arith, ints)) in
    in_inside And a b (interval_of (pos 0) b.hi) (below_right ∷ []) m n r p q refl refl
    (in_interval r (pos 0) b.hi j.0 (int_through r n b.hi j.1 qh)) (right_true m n r j.1)) (λ _.
    in_inside And a b (Some all_ints) [] m n r p q refl refl (bits_in_all (bit_and (of_z w32 m) (of_z w32 n))) (no_rows m n r))))

pub and_covers : (a b : Bounds) (m n : ℤ) → IsIn m all_ints → IsIn n all_ints → IsIn m a → IsIn n b
    → Any (FallsUnder And m n) (and_cases a b)
and_covers a b m n f g p q = any_first _ (and_case a b) [] (and_falls a b m n f g p q)

-- ---- the bits that one of them has, and that exactly one of them has

-- a number is below the power that is as long
below_power : (n : ℕ) → n < 2 ^ 32 → n < 2 ^ (32 - leading_zeros w32 n)
below_power n h =
    let l = leading_length 32 n h in
    let e : l.0 ≡ 32 - leading_zeros w32 n = omega (arith, l.1) in
    subst (λ (k : ℕ). n < 2 ^ k) e l.2

-- two numbers, neither below 0, and one that is at least both
record Naturals (m n h : ℤ) : Type 0 where
  left : pos 0 ≤ℤ m
  right : pos 0 ≤ℤ n
  left_below : m ≤ℤ h
  right_below : n ≤ℤ h
  whole : h ≤ℤ pos 2147483647

-- where the bits of two numbers lie
record Joined (m n h r : ℤ) : Type 0 where
  low : pos 0 ≤ℤ r
  whole : r ≤ℤ pos 2147483647
  high : r ≤ℤ (pos (2 ^ (32 - leading_zeros w32 (of_z w32 h))) -ℤ pos 1)

or_joined : (m n h : ℤ) → Naturals m n h → Joined m n h (int_bit_or w32 m n) × (m ≤ℤ int_bit_or w32 m n) × (n ≤ℤ int_bit_or w32 m n)
or_joined (pos x) (pos y) (pos k) s =
    let sl = s.left_below in
    let sr = s.right_below in
    let sw = s.whole in
    let power = below_power k (omega (arith, ints)) in
    let small = or_lt 31 x y (omega (arith, ints)) (omega (arith, ints)) in
    let int_through = or_lt (32 - leading_zeros w32 k) x y (omega (arith, ints)) (omega (arith, ints)) in
    let l = le_or_l x y in
    let r = le_or_r x y in (
      record { low = omega (arith, ints); whole = omega (arith, ints); high = omega (arith, ints) },
      omega (arith, ints),
      omega
          (arith, ints),
    )
or_joined (pos x) (pos y) (negsuc k) s = let sl = s.left_below in absurd (omega (arith, ints))
or_joined (pos x) (negsuc y) h s = let sr = s.right in absurd (omega (arith, ints))
or_joined (negsuc x) n h s = let sl = s.left in absurd (omega (arith, ints))

xor_joined : (m n h : ℤ) → Naturals m n h → Joined m n h (int_bit_xor w32 m n)
xor_joined (pos x) (pos y) (pos k) s =
    let sl = s.left_below in
    let sr = s.right_below in
    let sw = s.whole in
    let power = below_power k (omega (arith, ints)) in
    let small = xor_lt 31 x y (omega (arith, ints)) (omega (arith, ints)) in
    let int_through = xor_lt (32 - leading_zeros w32 k) x y (omega (arith, ints)) (omega (arith, ints)) in
    record { low = omega (arith, ints); whole = omega (arith, ints); high = omega (arith, ints) }
xor_joined (pos x) (pos y) (negsuc k) s = let sl = s.left_below in absurd (omega (arith, ints))
xor_joined (pos x) (negsuc y) h s = let sr = s.right in absurd (omega (arith, ints))
xor_joined (negsuc x) n h s = let sl = s.left in absurd (omega (arith, ints))

naturals : (a b : Bounds) (m n : ℤ) → a.hi ≤ℤ all_ints.hi → b.hi ≤ℤ all_ints.hi → IsIn m a → IsIn n b
    → (is_natural a && is_natural b) ≡ true → Naturals m n (int_max a.hi b.hi)
naturals a b m n ah bh p q t =
    let both = and_parts (is_natural a) (is_natural b) t in
    let one = both.0 in
    let two = both.1 in
    let pl = p.0 in
    let ph = p.1 in
    let ql = q.0 in
    let qh = q.1 in
    record {
      left = omega (arith, ints);
      right = omega (arith, ints);
      left_below = omega (arith, ints, clamps);
      right_below = omega
          (arith, ints, clamps);
      whole = omega (arith, ints, clamps);
    }

over_both : (m n r x y : ℤ) → m ≤ℤ r → n ≤ℤ r → x ≤ℤ m → y ≤ℤ n → int_max x y ≤ℤ r
over_both m n r x y h i j k = omega (arith, ints, clamps)

pub or_covers : (a b : Bounds) (m n : ℤ) → a.hi ≤ℤ all_ints.hi → b.hi ≤ℤ all_ints.hi → IsIn m a → IsIn n b
    → Any (FallsUnder Or m n) (or_cases a b)
or_covers a b m n ah bh p q =
    any_first _ (or_case a b) [] (
    if_either (λ (o : Option IntCase). IsSomeAnd o (FallsUnder Or m n)) (is_natural a && is_natural b) _
    (inside a b (Some all_ints) []) (λ t.
    let r : ℤ = int_bit_or w32 m n in
    let j = or_joined m n (int_max a.hi b.hi) (naturals a b m n ah bh p q t) in
    let d = j.0 in
    let l = j.1 in
    let k = j.2 in
    in_inside Or a b (meet_of all_ints (bounds (int_max a.lo b.lo) (ones_over a b)))
    (at_least_zero (negsuc 0) (pos 0) (pos 1) (pos 0) ∷ at_least_zero (pos 0) (negsuc 0) (pos 1) (pos 0) ∷ []) m n r p q refl
    refl (in_meet r all_ints (bounds (int_max a.lo b.lo) (ones_over a b)) (int_above r d.low, d.whole)
    (over_both m n r a.lo b.lo l k p.0 q.0, d.high))
    (more_rows m n r (at_least_zero (negsuc 0) (pos 0) (pos 1) (pos 0)) (at_least_zero (pos 0) (negsuc 0) (pos 1) (pos 0) ∷ [])
    (above_left m n r l) (more_rows m n r (at_least_zero (pos 0) (negsuc 0) (pos 1) (pos 0)) [] (above_right m n r k)
    (no_rows m n r)))) (λ _.
    in_inside Or a b (Some all_ints) [] m n (int_bit_or w32 m n) p q refl refl (bits_in_all (bit_or (of_z w32 m) (of_z w32 n)))
    (no_rows m n (int_bit_or w32 m n)))
    )

pub xor_covers : (a b : Bounds) (m n : ℤ) → a.hi ≤ℤ all_ints.hi → b.hi ≤ℤ all_ints.hi → IsIn m a → IsIn n b
    → Any (FallsUnder Xor m n) (xor_cases a b)
xor_covers a b m n ah bh p q =
    any_first _ (xor_case a b) [] (
    if_either (λ (o : Option IntCase). IsSomeAnd o (FallsUnder Xor m n)) (is_natural a && is_natural b) _
    (inside a b (Some all_ints) []) (λ t.
    let r : ℤ = int_bit_xor w32 m n in
    let d = xor_joined m n (int_max a.hi b.hi) (naturals a b m n ah bh p q t) in
    in_inside Xor a b (meet_of all_ints (bounds (pos 0) (ones_over a b))) [] m n r p q refl refl
    (in_meet r all_ints (bounds (pos 0) (ones_over a b)) (int_above r d.low, d.whole) (d.low, d.high)) (no_rows m n r)) (λ _.
    in_inside Xor a b (Some all_ints) [] m n (int_bit_xor w32 m n) p q refl refl (bits_in_all (bit_xor (of_z w32 m) (of_z w32 n)))
    (no_rows m n (int_bit_xor w32 m n)))
    )
