-- Two ints fall in a case of each operator.
use Rattle.std.proofs.Common.{◌≡◌, ℤ, pos, ◌≤ℤ◌, Bool, true, false, cond, Option, Some, None, List, [], refl, sym, ap, ◌∙◌, subst, arith}
use Rattle.std.specs.Prelude.{IsSomeAnd, ◌&&◌}
use Rattle.std.specs.List.{Any}
use Rattle.std.specs.Ordering.{int_eq}
use Rattle.std.proofs.lemmas.Int.{ints}
use Rattle.std.proofs.lemmas.Bool.Decides.{Decides-int_eq}
use Rattle.std.proofs.lemmas.Bool.{and_parts}
use Rattle.lin_core.specs.Intervals.{Bounds, IsIn}
use Rattle.jvm_values.specs.Ints.{int_result}
use Rattle.jvm_values.specs.declared.ints.IntOp.{IntOp}
use Rattle.jvm_values.specs.declared.ints.IntOp.TheVariants.{Add, Sub, Mul, Div, Rem, Shl, Shr, Ushr, And, Or, Xor, Narrow}
use Rattle.abs_ints.specs.Cases.{only}
use Rattle.abs_ints.specs.Falling.{FallsUnder, exact_result}
use Rattle.abs_ints.specs.Operating.{single_case, single_or, operated}
use Rattle.abs_ints.specs.IntIntervals.{all_ints, just, is_single}
use Rattle.abs_ints.specs.declared.cases.IntCase.{IntCase}
use Rattle.abs_ints.proofs.BitCases.{and_covers, or_covers, xor_covers}
use Rattle.abs_ints.proofs.Covering.{no_rows, any_first}
use Rattle.abs_ints.proofs.DivisionCases.{quotient_covers, remainder_covers}
use Rattle.abs_ints.proofs.NarrowCases.{narrow_covers}
use Rattle.abs_ints.proofs.OperatorCases.{if_either, single_is, in_inside, in_zero}
use Rattle.abs_ints.proofs.ProductCases.{product_covers}
use Rattle.abs_ints.proofs.ShiftCases.{shift_left_covers, shift_right_covers, shift_zeros_covers}
use Rattle.abs_ints.proofs.SumCases.{sum_covers, difference_covers}

-- ---- two single numbers

by_zero : (t : Bool) (z : ℤ) → cond t None (Some z) ≡ None → t ≡ true
by_zero true z e = refl
by_zero false z e = absurd cc

no_result_by_zero : (op : IntOp) (m n : ℤ) → int_result op m n ≡ None → n ≡ pos 0
no_result_by_zero Add m n e = absurd cc
no_result_by_zero Sub m n e = absurd cc
no_result_by_zero Mul m n e = absurd cc
no_result_by_zero Div m n e = (Decides-int_eq n (pos 0)).0 (by_zero (int_eq n (pos 0)) _ e)
no_result_by_zero Rem m n e = (Decides-int_eq n (pos 0)).0 (by_zero (int_eq n (pos 0)) _ e)
no_result_by_zero Shl m n e = absurd cc
no_result_by_zero Shr m n e = absurd cc
no_result_by_zero Ushr m n e = absurd cc
no_result_by_zero And m n e = absurd cc
no_result_by_zero Or m n e = absurd cc
no_result_by_zero Xor m n e = absurd cc
no_result_by_zero (Narrow kind) m n e = absurd cc

single_falls : (op : IntOp) (a b : Bounds) (m n : ℤ) (o : Option ℤ) → IsIn m a → IsIn n b → exact_result op m n ≡ None
    → int_result op m n ≡ o → IsSomeAnd (single_case a b o) (FallsUnder op m n)
single_falls op a b m n None p q exact e = in_zero op a b m n p q (no_result_by_zero op m n e) e
single_falls op a b m n (Some r) p q exact e = in_inside op a b (Some (just r)) [] m n r p q e exact
    (omega (arith, ints), omega (arith, ints)) (no_rows m n r)

single_or_covers : (op : IntOp) (a b : Bounds) (m n : ℤ) (cases : List IntCase) → IsIn m a → IsIn n b → exact_result op m n ≡ None
    → Any (FallsUnder op m n) cases → Any (FallsUnder op m n) (single_or op a b cases)
single_or_covers op a b m n cases p q exact h =
    if_either (λ (l : List IntCase). Any (FallsUnder op m n) l) (is_single a && is_single b)
    (only (single_case a b (int_result op a.lo b.lo))) cases (λ t.
    let both = and_parts (is_single a) (is_single b) t in
    let left : a.lo ≡ m = single_is a m both.0 p in
    let right : b.lo ≡ n = single_is b n both.1 q in
    let same : int_result op m n ≡ int_result op a.lo b.lo = ap (λ (x : ℤ). int_result op x n) (sym left)
    ∙ ap (λ (y : ℤ). int_result op a.lo y) (sym right) in
    any_first _ (single_case a b (int_result op a.lo b.lo)) [] (single_falls op a b m n (int_result op a.lo b.lo) p q exact same)) (λ _. h)

-- ---- all operators

-- the numbers of an interval are ints
abbrev pub AreInts : Bounds → Type 0
AreInts a = (all_ints.lo ≤ℤ a.lo) × (a.hi ≤ℤ all_ints.hi)

pub is_int : (a : Bounds) (m : ℤ) → AreInts a → IsIn m a → IsIn m all_ints
is_int a m f p =
    let fl = f.0 in
    let fh = f.1 in
    let pl = p.0 in
    let ph = p.1 in
    (omega (arith, ints), omega (arith, ints))

pub operated_covers : (op : IntOp) (a b : Bounds) (m n : ℤ) → AreInts a → AreInts b → IsIn m a → IsIn n b
    → Any (FallsUnder op m n) (operated op a b)
operated_covers Add a b m n f g p q = sum_covers a b m n (is_int a m f p) (is_int b n g q) p q
operated_covers Sub a b m n f g p q = difference_covers a b m n (is_int a m f p) (is_int b n g q) p q
operated_covers Mul a b m n f g p q = single_or_covers Mul a b m n _ p q refl (product_covers a b m n p q)
operated_covers Div a b m n f g p q = single_or_covers Div a b m n _ p q refl (quotient_covers a b m n f.0 (is_int a m f p) p q)
operated_covers Rem a b m n f g p q = single_or_covers Rem a b m n _ p q refl (remainder_covers a b m n p q)
operated_covers Shl a b m n f g p q = single_or_covers Shl a b m n _ p q refl (shift_left_covers a b m n p q)
operated_covers Shr a b m n f g p q = single_or_covers Shr a b m n _ p q refl (shift_right_covers a b m n p q)
operated_covers Ushr a b m n f g p q = single_or_covers Ushr a b m n _ p q refl (shift_zeros_covers a b m n (is_int a m f p) p q)
operated_covers And a b m n f g p q = single_or_covers And a b m n _ p q refl (and_covers a b m n (is_int a m f p) (is_int b n g q) p q)
operated_covers Or a b m n f g p q = single_or_covers Or a b m n _ p q refl (or_covers a b m n f.1 g.1 p q)
operated_covers Xor a b m n f g p q = single_or_covers Xor a b m n _ p q refl (xor_covers a b m n f.1 g.1 p q)
operated_covers (Narrow kind) a b m n f g p q = narrow_covers kind a b m n (is_int a m f p) p q
