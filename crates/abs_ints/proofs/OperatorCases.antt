-- What the operators' cases have in common: two ints fall in a case with a result, or in the division by 0.
use Rattle.std.proofs.Common.{◌≡◌, ℕ, ℤ, pos, negsuc, ◌+ℤ◌, ◌≤ℤ◌, ◌<ℤ◌, Bool, true, false, cond, Option, Some, None, List, [], ◌∷◌}
use Rattle.std.proofs.Common.{FitsSigned, w32, refl, sym, subst, arith}
use Rattle.std.specs.Prelude.{IsSomeAnd, IsSome, IfSome, int_le, ◌&&◌}
use Rattle.std.specs.Int.{int_wrap}
use Rattle.std.specs.Ordering.{int_eq}
use Rattle.std.proofs.lemmas.Int.{ints, SFits-int_wrap, int_wrap_fits}
use Rattle.std.proofs.lemmas.Bool.Decides.{Decides-int_eq}
use Rattle.std.proofs.lemmas.Bool.{and_parts}
use Rattle.lin_core.specs.Intervals.{Bounds, IsIn}
use Rattle.jvm_values.specs.Ints.{int_result}
use Rattle.jvm_values.specs.declared.ints.IntOp.{IntOp}
use Rattle.abs_ints.specs.Cases.{AllTrueOf, at_least_zero, inside}
use Rattle.abs_ints.specs.Divisions.{zero_case, dividend_rows}
use Rattle.abs_ints.specs.Falling.{FallsUnder, IsAnswered, exact_result}
use Rattle.abs_ints.specs.IntIntervals.{all_ints, just, is_single, meet_of, are_ints, ints_or_all}
use Rattle.abs_ints.specs.declared.cases.ShortRow.{ShortRow}
use Rattle.abs_ints.specs.declared.cases.Way.TheVariants.{Inside, Zero}
use Rattle.abs_ints.proofs.Covering.{in_meet, no_rows, more_rows, covers_between}

-- a choice, from what each side shows
pub if_either : {A : Type 0} (P : A → Type 0) (test : Bool) (x y : A) → (test ≡ true → P x) → (test ≡ false → P y) → P (cond test x y)
if_either P true x y p q = p refl
if_either P false x y p q = q refl

pub single_is : (a : Bounds) (m : ℤ) → is_single a ≡ true → IsIn m a → a.lo ≡ m
single_is a m e p =
    let same : a.lo ≡ a.hi = (Decides-int_eq a.lo a.hi).0 e in
    omega (arith, ints)

-- ints fall in a case that leaves them as they are
pub in_inside : (op : IntOp) (a b : Bounds) (result : Option Bounds) (rows : List ShortRow) (m n r : ℤ) → IsIn m a → IsIn n b
    → int_result op m n ≡ Some r → exact_result op m n ≡ None → IsSomeAnd result (λ x. IsIn r x) → AllTrueOf m n r rows
    → IsSomeAnd (inside a b result rows) (FallsUnder op m n)
in_inside op a b None rows m n r p q is exact i true_rows = absurd i
in_inside op a b (Some x) rows m n r p q is exact i true_rows = record {
  left_in = p;
  right_in = q;
  answered = subst (λ (o : Option ℤ). IsAnswered m n (record { left = a; right = b; result = Some x; rows = rows; way = Inside }) o)
      (sym is) (i, true_rows);
  way_taken = (subst (λ (o : Option ℤ). IsSome o) (sym is) refl, subst (λ (o : Option ℤ). IfSome o (λ z. IsIn z all_ints)) (sym exact) tt);
}

-- ints fall in the division by 0
pub in_zero : (op : IntOp) (a b : Bounds) (m n : ℤ) → IsIn m a → IsIn n b → n ≡ pos 0 → int_result op m n ≡ None
    → IsSomeAnd (zero_case a b) (FallsUnder op m n)
in_zero op a b m n p q e is =
    covers_between (FallsUnder op m n) Zero (Some a) (meet_of b (just (pos 0))) [] m n p
    (in_meet n b (just (pos 0)) q (omega (arith, ints), omega (arith, ints))) (λ x y u v.
    record {
      left_in = u;
      right_in = v;
      answered = subst (λ (o : Option ℤ). IsAnswered m n (record { left = x; right = y; result = None; rows = []; way = Zero }) o)
          (sym is) refl;
      way_taken = is;
    })

-- ---- rows

abbrev pub AreTrue : ℤ → ℤ → ℤ → List ShortRow → Type 0
AreTrue m n r rows = AllTrueOf m n r rows

-- a result is at most its dividend
pub dividend_rows_true : (a : Bounds) (m n r : ℤ) → IsIn m a → (pos 0 ≤ℤ m → r ≤ℤ m) → AllTrueOf m n r (dividend_rows a)
dividend_rows_true a m n r p h =
    let pl = p.0 in
    if_either (AreTrue m n r) (int_le (pos 0) a.lo) (at_least_zero (pos 1) (pos 0) (negsuc 0) (pos 0) ∷ []) [] (λ t.
    let k = h (omega (arith, ints)) in
    more_rows m n r (at_least_zero (pos 1) (pos 0) (negsuc 0) (pos 0)) [] (omega (arith, ints)) (no_rows m n r)) (λ _. no_rows m n r)

-- ---- wrapped numbers

-- what is wrapped is some int
pub in_all : (z : ℤ) → IsSomeAnd (Some all_ints) (λ x. IsIn (int_wrap w32 z) x)
in_all z = let f : FitsSigned w32 (int_wrap w32 z) = SFits-int_wrap w32 z in (omega (arith, ints), omega (arith, ints))

an_int : (z : ℤ) (h : Bounds) → IsIn z h → are_ints h ≡ true → IsIn z all_ints
an_int z h p e =
    let t = and_parts (int_le all_ints.lo h.lo) (int_le h.hi all_ints.hi) e in
    let low = t.0 in
    let high = t.1 in
    let pl = p.0 in
    let ph = p.1 in
    (omega (arith, ints), omega (arith, ints))

-- a number of an interval of ints is not wrapped
pub unwrapped : (z : ℤ) (h : Bounds) → IsIn z h → are_ints h ≡ true → int_wrap w32 z ≡ z
unwrapped z h p e =
    let i = an_int z h p e in
    let l = i.0 in
    let k = i.1 in
    int_wrap_fits w32 z (omega (arith, ints))

-- a number of an interval, wrapped, is in that interval if this has ints alone
pub in_ints_or_all : (z : ℤ) (h : Bounds) → IsIn z h → IsSomeAnd (ints_or_all h) (λ x. IsIn (int_wrap w32 z) x)
in_ints_or_all z h p =
    if_either (λ (o : Option Bounds). IsSomeAnd o (λ x. IsIn (int_wrap w32 z) x)) (are_ints h) (meet_of all_ints h) (Some all_ints)
    (λ e. subst (λ (y : ℤ). IsSomeAnd (meet_of all_ints h) (λ x. IsIn y x)) (sym (unwrapped z h p e))
    (in_meet z all_ints h (an_int z h p e) p)) (λ e. in_all z)
