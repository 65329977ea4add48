-- Two ints fall in a case of their quotient, and of their remainder.
use Rattle.std.proofs.Common.{◌≡◌, ℕ, zero, suc, ◌+◌, ◌-◌, ◌*◌, ◌/◌, ◌%◌, ◌<◌, ◌≤◌, ℤ, pos, negsuc, ◌+ℤ◌, ◌-ℤ◌, ◌*ℤ◌, ◌≤ℤ◌, ◌<ℤ◌}
use Rattle.std.proofs.Common.{neg_ℤ, Bool, true, false, cond, Option, Some, None, List, [], ◌∷◌, FitsSigned, w32, refl, sym, ap}
use Rattle.std.proofs.Common.{◌∙◌, subst, inl, inr, arith}
use Rattle.std.specs.Prelude.{IsSomeAnd, int_le, int_div, int_rem, unsigned_abs, max, ◌&&◌, ◌⊎◌}
use Rattle.std.specs.List.{Any, cons_option}
use Rattle.std.specs.Int.{int_wrap, int_min, int_max}
use Rattle.std.specs.Option.{option_and_then}
use Rattle.std.specs.Ordering.{int_eq}
use Rattle.std.proofs.Math.Nat.{div-le_self, div-mul-le_self, mul-le-mul_left, mod-le}
use Rattle.std.proofs.lemmas.Nat.{le-div, div-add-mod', mod_below}
use Rattle.std.proofs.lemmas.Int.{ints, clamps, int_wrap_fits, rem_below, SFits-int_wrap}
use Rattle.std.proofs.lemmas.Bool.{cases_lt, and_parts}
use Rattle.std.proofs.lemmas.Bool.Decides.{Decides-int_eq}
use Rattle.jvm_values.proofs.IntLaws.{abs_quotient}
use Rattle.jvm_values.proofs.IntRanges.{remainder_near}
use Rattle.jvm_values.proofs.list_views.Orders.{int_le_from}
use borrow.Author.Differences.{product_is}
use Rattle.jvm_values.proofs.list_views.Ring.{neg_times}
use Rattle.lin_core.specs.Intervals.{Bounds, IsIn, interval_of}
use Rattle.jvm_values.specs.Ints.{int_result}
use Rattle.jvm_values.specs.declared.ints.IntOp.{IntOp}
use Rattle.jvm_values.specs.declared.ints.IntOp.TheVariants.{Div, Rem}
use Rattle.abs_ints.specs.Cases.{at_least_zero, inside}
use Rattle.abs_ints.specs.Divisions.{divisors_of, are_positive, size_of, zero_case, least_quotient, greatest_quotient, may_wrap}
use Rattle.abs_ints.specs.Divisions.{quotients_of, single_divisor_rows, quotient_rows, quotient_cases, least_remainder}
use Rattle.abs_ints.specs.Divisions.{greatest_remainder, remainders_of, dividend_rows, remainder_rows, remainder_cases}
use Rattle.abs_ints.specs.Falling.{FallsUnder}
use Rattle.abs_ints.specs.IntIntervals.{all_ints, is_single, meet_of}
use Rattle.abs_ints.specs.declared.cases.IntCase.{IntCase}
use Rattle.abs_ints.proofs.Covering.{bounds, in_interval, in_meet, no_rows, more_rows, covers_and_then, any_first, any_rest}
use Rattle.abs_ints.proofs.OperatorCases.{AreTrue, if_either, single_is, in_inside, in_zero, in_all, dividend_rows_true}

-- ---- the two cases

zero_or_not : (n : ℤ) → (n ≡ pos 0) ⊎ ¬ (n ≡ pos 0)
zero_or_not (pos zero) = inl refl
zero_or_not (pos (suc k)) = inr (λ e. absurd (omega (arith, ints)))
zero_or_not (negsuc k) = inr (λ e. absurd (omega (arith, ints)))

in_divisors : (b : Bounds) (n : ℤ) → IsIn n b → ¬ (n ≡ pos 0) → IsSomeAnd (divisors_of b) (λ x. IsIn n x)
in_divisors b n q apart =
    let low = q.0 in
    let high = q.1 in
    in_interval n (cond (int_eq b.lo (pos 0)) (pos 1) b.lo) (cond (int_eq b.hi (pos 0)) (negsuc 0) b.hi)
    (if_either (λ (z : ℤ). z ≤ℤ n) (int_eq b.lo (pos 0)) (pos 1) b.lo
    (λ t. let e = (Decides-int_eq b.lo (pos 0)).0 t in omega (arith, ints)) (λ _. low))
    (if_either (λ (z : ℤ). n ≤ℤ z) (int_eq b.hi (pos 0)) (negsuc 0) b.hi
    (λ t. let e = (Decides-int_eq b.hi (pos 0)).0 t in omega (arith, ints)) (λ _. high))

no_result : (x : Option ℤ) (n : ℤ) → n ≡ pos 0 → cond (int_eq n (pos 0)) None x ≡ None
no_result x n e = ap (λ (t : Bool). cond t None x) ((Decides-int_eq n (pos 0)).1 e)

is_false : (t : Bool) → ¬ (t ≡ true) → t ≡ false
is_false true h = absurd (h refl)
is_false false h = refl

some_result : (x : Option ℤ) (n : ℤ) → ¬ (n ≡ pos 0) → cond (int_eq n (pos 0)) None x ≡ x
some_result x n apart = ap (λ (t : Bool). cond t None x) (is_false (int_eq n (pos 0)) (λ t. apart ((Decides-int_eq n (pos 0)).0 t)))

-- a divisor is 0, or one of the others
divided : (op : IntOp) (f : Bounds → Option IntCase) (a b : Bounds) (m n : ℤ) → IsIn m a → IsIn n b
    → (n ≡ pos 0 → int_result op m n ≡ None) → (¬ (n ≡ pos 0) → (d : Bounds) → IsIn n d → IsSomeAnd (f d) (FallsUnder op m n))
    → Any (FallsUnder op m n) (cons_option (option_and_then f (divisors_of b)) (cons_option (zero_case a b) []))
divided op f a b m n p q nothing something =
    elim (zero_or_not n) [
      | inl e ↦ any_rest _ (option_and_then f (divisors_of b)) _ (any_first _ (zero_case a b) [] (in_zero op a b m n p q e (nothing e)))
      | inr h ↦ any_first _ (option_and_then f (divisors_of b)) _
          (covers_and_then (FallsUnder op m n) (divisors_of b) f n (in_divisors b n q h) (something h))
    ]

-- ---- quotients by divisors above 0

quotient_mono : (x y d e : ℕ) → x ≤ y → d ≤ e → 0 < d → x / e ≤ y / d
quotient_mono x y d e h k o = le-div (x / e) y d o (omega (arith, mul-le-mul_left (x / e) k, div-mul-le_self x e))

least_is_least : (l m : ℤ) (d q e : ℕ) → 0 < d → d ≤ q → q ≤ e → l ≤ℤ m → least_quotient l (bounds (pos d) (pos e)) ≤ℤ int_div m (pos q)
least_is_least (pos l) (pos x) d q e o h k i = let r = quotient_mono l x q e (omega (arith, ints)) k (omega arith) in omega (arith, ints)
least_is_least (pos l) (negsuc x) d q e o h k i = absurd (omega (arith, ints))
least_is_least (negsuc l) (pos x) d q e o h k i = omega (arith, ints)
least_is_least (negsuc l) (negsuc x) d q e o h k i = let r = quotient_mono (suc x) (suc l) d q (omega (arith, ints)) h o in omega
    (arith, ints)

greatest_is_greatest : (l m : ℤ) (d q e : ℕ) → 0 < d → d ≤ q → q ≤ e → m ≤ℤ l
    → int_div m (pos q) ≤ℤ greatest_quotient l (bounds (pos d) (pos e))
greatest_is_greatest (pos l) (pos x) d q e o h k i = let r = quotient_mono x l d q (omega (arith, ints)) h o in omega (arith, ints)
greatest_is_greatest (pos l) (negsuc x) d q e o h k i = omega (arith, ints)
greatest_is_greatest (negsuc l) (pos x) d q e o h k i = absurd (omega (arith, ints))
greatest_is_greatest (negsuc l) (negsuc x) d q e o h k i = let r = quotient_mono (suc l) (suc x) q e (omega (arith, ints)) k
    (omega arith) in omega (arith, ints)

-- the quotient by a divisor above 0 is an int
quotient_fits : (m : ℤ) (q : ℕ) → IsIn m all_ints → FitsSigned w32 (int_div m (pos q))
quotient_fits (pos x) q f = let h = f.1 in let k = div-le_self x q in omega (arith, ints)
quotient_fits (negsuc x) q f = let h = f.0 in let k = div-le_self (suc x) q in omega (arith, ints)

-- with the least divisor c, and with the divisor itself
low_quotient : (m : ℤ) (d q : ℕ) → pos 0 ≤ℤ m → 0 < d → d ≤ q → (pos d *ℤ int_div m (pos q)) ≤ℤ m
low_quotient (pos x) d q h o k = omega (arith, ints, mul-le-mul_left (x / q) k, div-mul-le_self x q)
low_quotient (negsuc x) d q h o k = absurd (omega (arith, ints))

high_quotient : (m : ℤ) (q : ℕ) → pos 0 ≤ℤ m → 0 < q → m <ℤ (pos q *ℤ int_div m (pos q) +ℤ pos q)
high_quotient (pos x) q h o = omega (arith, ints, div-add-mod' x q, mod_below x q o)
high_quotient (negsuc x) q h o = absurd (omega (arith, ints))

-- what is known of a quotient by a divisor above 0
record Quotient (a : Bounds) (l u m n : ℤ) : Type 0 where
  low : least_quotient a.lo (bounds l u) ≤ℤ int_div m n
  high : int_div m n ≤ℤ greatest_quotient a.hi (bounds l u)
  fits : FitsSigned w32 (int_div m n)
  least : pos 0 ≤ℤ m → (l *ℤ int_div m n) ≤ℤ m
  own : pos 0 ≤ℤ m → m <ℤ (n *ℤ int_div m n +ℤ n)

quotient_is : (a : Bounds) (l u m n : ℤ) → IsIn m all_ints → IsIn m a → pos 1 ≤ℤ l → l ≤ℤ n → n ≤ℤ u → Quotient a l u m n
quotient_is a (pos d) (pos e) m (pos q) f p h i j =
    let o : 0 < d = omega (arith, ints) in
    let k : d ≤ q = omega (arith, ints) in
    let r : q ≤ e = omega (arith, ints) in
    record {
      low = least_is_least a.lo m d q e o k r p.0;
      high = greatest_is_greatest a.hi m d q e o k r p.1;
      fits = quotient_fits m q f;
      least = λ s. low_quotient m d q s o k;
      own = λ s. high_quotient m q s (omega arith);
    }
quotient_is a (pos d) (pos e) m (negsuc q) f p h i j = absurd (omega (arith, ints))
quotient_is a (pos d) (negsuc e) m n f p h i j = absurd (omega (arith, ints))
quotient_is a (negsuc d) u m n f p h i j = absurd (omega (arith, ints))

single_divisor_true : (b : Bounds) (m n r : ℤ) → IsIn n b → m <ℤ (n *ℤ r +ℤ n) → AreTrue m n r (single_divisor_rows b)
single_divisor_true b m n r q h =
    if_either (AreTrue m n r) (is_single b) (at_least_zero (negsuc 0) (pos 0) b.lo (b.lo -ℤ pos 1) ∷ []) [] (λ t.
    let k : m <ℤ (b.lo *ℤ r +ℤ b.lo) = subst (λ (z : ℤ). m <ℤ (z *ℤ r +ℤ z)) (sym (single_is b n t q)) h in
    more_rows m n r (at_least_zero (negsuc 0) (pos 0) b.lo (b.lo -ℤ pos 1)) [] (omega (arith, ints)) (no_rows m n r)) (λ _. no_rows m n r)

quotient_rows_true : (a b d : Bounds) (m n r : ℤ) → IsIn m a → IsIn n b → (pos 1 ≤ℤ d.lo → pos 0 ≤ℤ m → (d.lo *ℤ r) ≤ℤ m)
    → (pos 1 ≤ℤ d.lo → pos 0 ≤ℤ m → m <ℤ (n *ℤ r +ℤ n)) → AreTrue m n r (quotient_rows a b d)
quotient_rows_true a b d m n r p q least own =
    if_either (AreTrue m n r) (are_positive d && int_le (pos 0) a.lo)
    (at_least_zero (pos 1) (pos 0) (neg_ℤ d.lo) (pos 0) ∷ single_divisor_rows b) [] (λ t.
    let both = and_parts (are_positive d) (int_le (pos 0) a.lo) t in
    let one = both.0 in
    let two = both.1 in
    let pl = p.0 in
    let above : pos 1 ≤ℤ d.lo = omega (arith, ints) in
    let natural : pos 0 ≤ℤ m = omega (arith, ints) in
    let low = least above natural in
    more_rows m n r (at_least_zero (pos 1) (pos 0) (neg_ℤ d.lo) (pos 0)) (single_divisor_rows b)
    (omega (arith, ints, neg_times d.lo r)) (single_divisor_true b m n r q (own above natural))) (λ _. no_rows m n r)

-- ---- quotients by other divisors

-- a quotient of ints is an int, but for the least int by -1
by_minus_one : (x : ℕ) → IsIn (negsuc x) all_ints → (x < 2147483647) ⊎ (2147483647 ≤ x)
    → FitsSigned w32 (int_div (negsuc x) (negsuc 0)) ⊎ ((negsuc x ≡ negsuc 2147483647) × (negsuc 0 ≡ negsuc 0))
by_minus_one x f (inl h) = let k = div-le_self (suc x) 1 in inl (omega (arith, ints))
by_minus_one x f (inr h) = let low = f.0 in inr (omega (arith, ints), refl)

fits_or_wraps : (m n : ℤ) → IsIn m all_ints → FitsSigned w32 (int_div m n) ⊎ ((m ≡ negsuc 2147483647) × (n ≡ negsuc 0))
fits_or_wraps (pos x) (pos q) f = let h = f.1 in let k = div-le_self x q in inl (omega (arith, ints))
fits_or_wraps (pos x) (negsuc q) f = let h = f.1 in let k = div-le_self x (suc q) in inl (omega (arith, ints))
fits_or_wraps (negsuc x) (pos q) f = let h = f.0 in let k = div-le_self (suc x) q in inl (omega (arith, ints))
fits_or_wraps (negsuc x) (negsuc zero) f = by_minus_one x f (cases_lt x 2147483647)
fits_or_wraps (negsuc x) (negsuc (suc q)) f =
    let h = f.0 in
    let k = quotient_mono (suc x) (suc x) 2 (suc (suc q)) (omega arith) (omega arith) (omega arith) in
    inl (omega (arith, ints))

three_true : (s t u : Bool) → s ≡ true → t ≡ true → u ≡ true → (s && t && u) ≡ true
three_true true true true h i j = refl
three_true true true false h i j = j
three_true true false u h i j = absurd cc
three_true false t u h i j = absurd cc

wraps : (a d : Bounds) (m n : ℤ) → all_ints.lo ≤ℤ a.lo → IsIn m a → IsIn n d → m ≡ negsuc 2147483647 → n ≡ negsuc 0 → may_wrap a d ≡ true
wraps a d m n low p q e g =
    let pl = p.0 in
    let ql = q.0 in
    let qh = q.1 in
    three_true (int_eq a.lo all_ints.lo) (int_le d.lo (negsuc 0)) (int_le (negsuc 0) d.hi)
    ((Decides-int_eq a.lo (negsuc 2147483647)).1 (omega (arith, ints))) (int_le_from d.lo (negsuc 0) (omega (arith, ints)))
    (int_le_from (negsuc 0) d.hi (omega (arith, ints)))

other_fits : (a d : Bounds) (m n : ℤ) → all_ints.lo ≤ℤ a.lo → IsIn m all_ints → IsIn m a → IsIn n d → may_wrap a d ≡ false
    → FitsSigned w32 (int_div m n)
other_fits a d m n low f p q t =
    elim (fits_or_wraps m n f) [ inl h ↦ h | inr h ↦ absurd (wraps_not (may_wrap a d) (wraps a d m n low p q h.0 h.1) t) ]
  where
    wraps_not : (s : Bool) → s ≡ true → s ≡ false → ⊥
    wraps_not true h k = cc
    wraps_not false h k = cc

sized : (m v : ℤ) (s : ℕ) → unsigned_abs v ≤ s → (neg_ℤ (pos s) ≤ℤ v) × (v ≤ℤ pos s)
sized m v s h = (omega (arith, ints), omega (arith, ints))

size_over : (a : Bounds) (m : ℤ) → IsIn m a → unsigned_abs m ≤ size_of a
size_over a m p = let l = p.0 in let h = p.1 in omega (arith, ints)

-- where a quotient lies
in_quotients : (a d : Bounds) (m n : ℤ) → all_ints.lo ≤ℤ a.lo → IsIn m all_ints → IsIn m a → IsIn n d
    → IsSomeAnd (quotients_of a d) (λ x. IsIn (int_wrap w32 (int_div m n)) x)
in_quotients a d m n low f p q =
    let P : Option Bounds → Type 0 = λ o. IsSomeAnd o (λ x. IsIn (int_wrap w32 (int_div m n)) x) in
    if_either P (are_positive d) (interval_of (least_quotient a.lo d) (greatest_quotient a.hi d)) _ (λ t.
    let k = quotient_is a d.lo d.hi m n f p (omega (arith, ints)) q.0 q.1 in
    subst (λ (z : ℤ). IsSomeAnd (interval_of (least_quotient a.lo d) (greatest_quotient a.hi d)) (λ x. IsIn z x))
    (sym (int_wrap_fits w32 (int_div m n) k.fits))
    (in_interval (int_div m n) (least_quotient a.lo d) (greatest_quotient a.hi d) k.low k.high)) (λ _.
    if_either P (may_wrap a d) (Some all_ints) _ (λ _. in_all (int_div m n)) (λ t.
    let fits = other_fits a d m n low f p q t in
    let s = sized m (int_div m n) (size_of a) (omega (arith, abs_quotient m n, size_over a m p)) in
    subst (λ (z : ℤ). IsSomeAnd (meet_of all_ints (bounds (neg_ℤ (pos (size_of a))) (pos (size_of a)))) (λ x. IsIn z x))
    (sym (int_wrap_fits w32 (int_div m n) fits))
    (in_meet (int_div m n) all_ints (bounds (neg_ℤ (pos (size_of a))) (pos (size_of a)))
    (omega (arith, ints), omega (arith, ints)) s)))

quotient_true : (a b d : Bounds) (m n : ℤ) → IsIn m all_ints → IsIn m a → IsIn n b → IsIn n d
    → AreTrue m n (int_wrap w32 (int_div m n)) (quotient_rows a b d)
quotient_true a b d m n f p q i =
    quotient_rows_true a b d m n (int_wrap w32 (int_div m n)) p q (λ s t.
    let k = quotient_is a d.lo d.hi m n f p s i.0 i.1 in
    subst (λ (z : ℤ). (d.lo *ℤ z) ≤ℤ m) (sym (int_wrap_fits w32 (int_div m n) k.fits)) (k.least t)) (λ s t.
    let k = quotient_is a d.lo d.hi m n f p s i.0 i.1 in
    subst (λ (z : ℤ). m <ℤ (n *ℤ z +ℤ n)) (sym (int_wrap_fits w32 (int_div m n) k.fits)) (k.own t))

pub quotient_covers : (a b : Bounds) (m n : ℤ) → all_ints.lo ≤ℤ a.lo → IsIn m all_ints → IsIn m a → IsIn n b
    → Any (FallsUnder Div m n) (quotient_cases a b)
quotient_covers a b m n low f p q =
    divided Div (λ d. inside a d (quotients_of a d) (quotient_rows a b d)) a b m n p q (no_result _ n) (λ apart d i.
    in_inside Div a d (quotients_of a d) (quotient_rows a b d) m n (int_wrap w32 (int_div m n)) p i (some_result _ n apart) refl
    (in_quotients a d m n low f p i) (quotient_true a b d m n f p q i))

-- ---- remainders

size_above_zero : (n : ℤ) → ¬ (n ≡ pos 0) → 0 < unsigned_abs n
size_above_zero (pos zero) h = absurd (h refl)
size_above_zero (pos (suc k)) h = omega arith
size_above_zero (negsuc k) h = omega arith

least_remainder_is : (l m v : ℤ) (s : ℕ) → l ≤ℤ m → int_min m (pos 0) ≤ℤ v → neg_ℤ (pos s) ≤ℤ v → least_remainder l s ≤ℤ v
least_remainder_is (pos l) m v s h i j = omega (arith, ints, clamps)
least_remainder_is (negsuc l) m v s h i j = omega (arith, ints, clamps)

greatest_remainder_is : (l m v : ℤ) (s : ℕ) → m ≤ℤ l → v ≤ℤ int_max m (pos 0) → v ≤ℤ pos s → v ≤ℤ greatest_remainder l s
greatest_remainder_is (pos l) m v s h i j = omega (arith, ints, clamps)
greatest_remainder_is (negsuc l) m v s h i j = omega (arith, ints, clamps)

in_remainders : (a d : Bounds) (m n : ℤ) → IsIn m a → IsIn n d → ¬ (n ≡ pos 0) → IsSomeAnd (remainders_of a d) (λ x. IsIn (int_rem m n) x)
in_remainders a d m n p q apart =
    let near = remainder_near m n in
    let below = rem_below m n (size_above_zero n apart) in
    let s = sized m (int_rem m n) (size_of d - 1) (omega (arith, below, size_over d n q)) in
    in_interval (int_rem m n) (least_remainder a.lo (size_of d - 1)) (greatest_remainder a.hi (size_of d - 1))
    (least_remainder_is a.lo m (int_rem m n) (size_of d - 1) p.0 near.0 s.0)
    (greatest_remainder_is a.hi m (int_rem m n) (size_of d - 1) p.1 near.1 s.1)

no_higher : (m v : ℤ) → v ≤ℤ int_max m (pos 0) → pos 0 ≤ℤ m → v ≤ℤ m
no_higher m v h k = omega (arith, ints, clamps)

remainder_true : (a d : Bounds) (m n : ℤ) → IsIn m a → IsIn n d → ¬ (n ≡ pos 0) → AreTrue m n (int_rem m n) (remainder_rows a d)
remainder_true a d m n p q apart =
    let near = remainder_near m n in
    let below = rem_below m n (size_above_zero n apart) in
    let v : ℤ = int_rem m n in
    let ql = q.0 in
    if_either (AreTrue m n (int_rem m n)) (are_positive d) (at_least_zero (pos 0) (pos 1) (negsuc 0) (negsuc 0) ∷ dividend_rows a) [] (λ t.
    more_rows m n (int_rem m n) (at_least_zero (pos 0) (pos 1) (negsuc 0) (negsuc 0)) (dividend_rows a) (omega (arith, ints))
    (dividend_rows_true a m n (int_rem m n) p (no_higher m (int_rem m n) near.1))) (λ _. no_rows m n (int_rem m n))

pub remainder_covers : (a b : Bounds) (m n : ℤ) → IsIn m a → IsIn n b → Any (FallsUnder Rem m n) (remainder_cases a b)
remainder_covers a b m n p q =
    divided Rem (λ d. inside a d (remainders_of a d) (remainder_rows a d)) a b m n p q (no_result _ n) (λ apart d i.
    in_inside Rem a d (remainders_of a d) (remainder_rows a d) m n (int_rem m n) p i (some_result _ n apart) refl
    (in_remainders a d m n p i apart) (remainder_true a d m n p i apart))
