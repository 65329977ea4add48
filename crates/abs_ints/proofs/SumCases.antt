-- Two ints fall in a case of their sum, and of their difference.
use Rattle.std.proofs.Common.{◌≡◌, ℤ, pos, negsuc, ◌+ℤ◌, ◌-ℤ◌, ◌<ℤ◌, [], ◌∷◌, FitsSigned, w32, refl, sym, ap, ◌∙◌, subst, arith}
use Rattle.std.specs.Prelude.{IsSomeAnd}
use Rattle.std.specs.List.{Any}
use Rattle.std.specs.Int.{int_wrap}
use Rattle.std.proofs.lemmas.Int.{ints, by_lt_z, int_wrap_fits, int_wrap-add_right}
use Rattle.lin_core.specs.Intervals.{Bounds, IsIn}
use Rattle.jvm_values.specs.declared.ints.IntOp.TheVariants.{Add, Sub}
use Rattle.abs_ints.specs.Cases.{AllTrueOf}
use Rattle.abs_ints.specs.Falling.{FallsUnder, GoesOn}
use Rattle.abs_ints.specs.IntIntervals.{all_ints, meet_of, sum_of, difference_of}
use Rattle.abs_ints.specs.Sums.{turn_of, reached_by, wrapped_by, sum_row, difference_row, sum_case, difference_case, sum_cases}
use Rattle.abs_ints.specs.Sums.{difference_cases}
use Rattle.abs_ints.specs.declared.cases.Way.{Way}
use Rattle.abs_ints.specs.declared.cases.Way.TheVariants.{Inside, Over, Under, Zero, Taken, Next}
use Rattle.abs_ints.proofs.Covering.{in_meet, no_rows, more_rows, covers_with, covers_and_then, any_first, any_rest}

-- ---- wrapping

turn_wraps : (way : Way) → int_wrap w32 (turn_of way) ≡ pos 0
unfolding int_wrap
turn_wraps Inside = refl
turn_wraps Over = refl
turn_wraps Under = refl
turn_wraps Zero = refl
turn_wraps Taken = refl
turn_wraps Next = refl

wrap_by : (z t : ℤ) → int_wrap w32 t ≡ pos 0 → FitsSigned w32 (z -ℤ t) → int_wrap w32 z ≡ z -ℤ t
wrap_by z t e f =
    let back : z ≡ (z -ℤ t) +ℤ t = omega (arith, ints) in
    let none : (z -ℤ t) +ℤ pos 0 ≡ z -ℤ t = omega (arith, ints) in
    ap (int_wrap w32) back ∙ sym (int_wrap-add_right w32 (z -ℤ t) t) ∙ ap (λ (y : ℤ). int_wrap w32 ((z -ℤ t) +ℤ y)) e
    ∙ ap (int_wrap w32) none ∙ int_wrap_fits w32 (z -ℤ t) f

-- an exact result that is reached so is wrapped so
wrap_is : (way : Way) (z : ℤ) → IsIn z (reached_by way) → int_wrap w32 z ≡ z -ℤ turn_of way
wrap_is way z h =
    let l = h.0 in
    let k = h.1 in
    wrap_by z (turn_of way) (turn_wraps way) (omega (arith, ints))

-- ---- one case

sum_row_true : (way : Way) (m n r : ℤ) → r ≡ (m +ℤ n) -ℤ turn_of way → AllTrueOf m n r (sum_row way ∷ [])
sum_row_true way m n r e = more_rows m n r (sum_row way) [] (omega (arith, ints)) (no_rows m n r)

difference_row_true : (way : Way) (m n r : ℤ) → r ≡ (m -ℤ n) -ℤ turn_of way → AllTrueOf m n r (difference_row way ∷ [])
difference_row_true way m n r e = more_rows m n r (difference_row way) [] (omega (arith, ints)) (no_rows m n r)

in_sum_case : (way : Way) (a b : Bounds) (m n : ℤ) → IsIn m a → IsIn n b → IsIn (m +ℤ n) (reached_by way) → GoesOn way Add m n
    → IsSomeAnd (sum_case way a b) (FallsUnder Add m n)
in_sum_case way a b m n p q h goes =
    let z : ℤ = m +ℤ n in
    covers_and_then (FallsUnder Add m n) (meet_of (reached_by way) (sum_of a b)) _ z
    (in_meet z (reached_by way) (sum_of a b) h (omega (arith, ints), omega (arith, ints))) (λ x i.
    let il = i.0 in
    let ih = i.1 in
    covers_with (FallsUnder Add m n) way (meet_of a (difference_of x b)) (meet_of b (difference_of x a))
    (meet_of all_ints (wrapped_by way x)) (sum_row way ∷ []) m n (int_wrap w32 z)
    (in_meet m a (difference_of x b) p (omega (arith, ints), omega (arith, ints)))
    (in_meet n b (difference_of x a) q (omega (arith, ints), omega (arith, ints)))
    (subst (λ (y : ℤ). IsSomeAnd (meet_of all_ints (wrapped_by way x)) (λ c. IsIn y c)) (sym (wrap_is way z h))
    (in_meet (z -ℤ turn_of way) all_ints (wrapped_by way x) (omega (arith, ints), omega (arith, ints))
    (omega (arith, ints), omega (arith, ints))))
    (λ c d e u v w. record {
      left_in = u;
      right_in = v;
      answered = (w, sum_row_true way m n (int_wrap w32 z) (wrap_is way z h));
      way_taken = goes;
    }))

in_difference_case : (way : Way) (a b : Bounds) (m n : ℤ) → IsIn m a → IsIn n b → IsIn (m -ℤ n) (reached_by way)
    → GoesOn way Sub m n → IsSomeAnd (difference_case way a b) (FallsUnder Sub m n)
in_difference_case way a b m n p q h goes =
    let z : ℤ = m -ℤ n in
    covers_and_then (FallsUnder Sub m n) (meet_of (reached_by way) (difference_of a b)) _ z
    (in_meet z (reached_by way) (difference_of a b) h (omega (arith, ints), omega (arith, ints))) (λ x i.
    let il = i.0 in
    let ih = i.1 in
    covers_with (FallsUnder Sub m n) way (meet_of a (sum_of x b)) (meet_of b (difference_of a x))
    (meet_of all_ints (wrapped_by way x)) (difference_row way ∷ []) m n (int_wrap w32 z)
    (in_meet m a (sum_of x b) p (omega (arith, ints), omega (arith, ints)))
    (in_meet n b (difference_of a x) q (omega (arith, ints), omega (arith, ints)))
    (subst (λ (y : ℤ). IsSomeAnd (meet_of all_ints (wrapped_by way x)) (λ c. IsIn y c)) (sym (wrap_is way z h))
    (in_meet (z -ℤ turn_of way) all_ints (wrapped_by way x) (omega (arith, ints), omega (arith, ints))
    (omega (arith, ints), omega (arith, ints))))
    (λ c d e u v w. record
    { left_in = u; right_in = v; answered = (w, difference_row_true way m n (int_wrap w32 z) (wrap_is way z h)); way_taken = goes }))

-- ---- the three cases

-- how two ints' exact result is wrapped
data Turn (z : ℤ) : Type 0 where
  inside : IsIn z all_ints → Turn z
  over : all_ints.hi <ℤ z → Turn z
  under : z <ℤ all_ints.lo → Turn z

turn_of_result : (z : ℤ) → Turn z
turn_of_result z = by_lt_z z (negsuc 2147483647) (λ h. under h) (λ h. by_lt_z (pos 2147483647) z (λ k. over k) (λ k. inside (h, k)))

sum_by : (a b : Bounds) (m n : ℤ) → IsIn m all_ints → IsIn n all_ints → IsIn m a → IsIn n b → Turn (m +ℤ n)
    → Any (FallsUnder Add m n) (sum_cases a b)
sum_by a b m n f g p q (inside h) = any_first _ (sum_case Inside a b) _
    (in_sum_case Inside a b m n p q (omega (arith, ints, h.0, h.1), omega (arith, ints, h.0, h.1)) (refl, h))
sum_by a b m n f g p q (over h) = any_rest _ (sum_case Inside a b) _
    (any_first _ (sum_case Over a b) _ (in_sum_case Over a b m n p q (omega (arith, ints), omega (arith, ints)) (refl, h)))
sum_by a b m n f g p q (under h) = any_rest _ (sum_case Inside a b) _
    (any_rest _ (sum_case Over a b) _
    (any_first _ (sum_case Under a b) _ (in_sum_case Under a b m n p q (omega (arith, ints), omega (arith, ints)) (refl, h))))

difference_by : (a b : Bounds) (m n : ℤ) → IsIn m all_ints → IsIn n all_ints → IsIn m a → IsIn n b → Turn (m -ℤ n)
    → Any (FallsUnder Sub m n) (difference_cases a b)
difference_by a b m n f g p q (inside h) = any_first _ (difference_case Inside a b) _
    (in_difference_case Inside a b m n p q (omega (arith, ints, h.0, h.1), omega (arith, ints, h.0, h.1)) (refl, h))
difference_by a b m n f g p q (over h) = any_rest _ (difference_case Inside a b) _
    (any_first _ (difference_case Over a b) _ (in_difference_case Over a b m n p q (omega (arith, ints), omega (arith, ints)) (refl, h)))
difference_by a b m n f g p q (under h) = any_rest _ (difference_case Inside a b) _
    (any_rest _ (difference_case Over a b) _
    (any_first _ (difference_case Under a b) _ (in_difference_case Under a b m n p q (omega (arith, ints), omega (arith, ints))
    (refl, h))))

pub sum_covers : (a b : Bounds) (m n : ℤ) → IsIn m all_ints → IsIn n all_ints → IsIn m a → IsIn n b
    → Any (FallsUnder Add m n) (sum_cases a b)
sum_covers a b m n f g p q = sum_by a b m n f g p q (turn_of_result (m +ℤ n))

pub difference_covers : (a b : Bounds) (m n : ℤ) → IsIn m all_ints → IsIn n all_ints → IsIn m a → IsIn n b
    → Any (FallsUnder Sub m n) (difference_cases a b)
difference_covers a b m n f g p q = difference_by a b m n f g p q (turn_of_result (m -ℤ n))
