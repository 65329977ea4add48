-- An int falls in the case of its narrowing.
use Rattle.std.proofs.Common.{◌≡◌, ℕ, ◌%◌, ◌-◌, ℤ, pos, negsuc, ◌≤ℤ◌, Bool, true, false, cond, Option, Some, None, List, []}
use Rattle.std.proofs.Common.{FitsSigned, w8, w16, refl, sym, subst, arith}
use Rattle.std.specs.Prelude.{IsSomeAnd, int_le}
use Rattle.std.specs.List.{Any}
use Rattle.std.specs.Int.{int_wrap, int_rem_euclid}
use Rattle.std.proofs.lemmas.Int.{ints, SFits-int_wrap, int_wrap_fits}
use Rattle.std.proofs.lemmas.Bool.{and_parts}
use Rattle.jvm_values.proofs.IntRanges.{bit_in, char_in}
use Rattle.lin_core.specs.Intervals.{Bounds, IsIn, interval_of}
use Rattle.jvm_values.specs.Kinds.{IsOfKind, least_of, greatest_of, narrowed}
use Rattle.jvm_values.specs.declared.ints.IntOp.TheVariants.{Narrow}
use Rattle.jvm_values.specs.declared.types.Kind.{Kind}
use Rattle.jvm_values.specs.declared.types.Kind.TheVariants.{Boolean, Char, Byte, Short, Int}
use Rattle.abs_ints.specs.Cases.{inside, case_between}
use Rattle.abs_ints.specs.Falling.{FallsUnder}
use Rattle.abs_ints.specs.Narrowings.{are_of_kind, narrow_cases}
use Rattle.abs_ints.specs.IntIntervals.{all_ints}
use Rattle.abs_ints.specs.declared.cases.IntCase.{IntCase}
use Rattle.abs_ints.specs.declared.cases.Way.TheVariants.{Inside}
use Rattle.abs_ints.proofs.Covering.{in_interval, no_rows, any_first}
use Rattle.abs_ints.proofs.OperatorCases.{if_either, in_inside}

bit_kept : (m : ℤ) → pos 0 ≤ℤ m → m ≤ℤ pos 1 → int_rem_euclid m (pos 2) ≡ m
bit_kept (pos n) l h = omega (arith, ints)
bit_kept (negsuc n) l h = absurd (omega (arith, ints))

char_kept : (m : ℤ) → pos 0 ≤ℤ m → m ≤ℤ pos 65535 → int_rem_euclid m (pos 65536) ≡ m
char_kept (pos n) l h = omega (arith, ints)
char_kept (negsuc n) l h = absurd (omega (arith, ints))

-- what is of a kind is kept
kept : (kind : Kind) (m : ℤ) → IsOfKind kind m → narrowed kind m ≡ m
kept Boolean m h = bit_kept m h.0 h.1
kept Char m h = char_kept m h.0 h.1
kept Byte m h = let l = h.0 in let k = h.1 in int_wrap_fits w8 m (omega (arith, ints))
kept Short m h = let l = h.0 in let k = h.1 in int_wrap_fits w16 m (omega (arith, ints))
kept Int m h = refl

-- what is narrowed is of the kind
of_kind : (kind : Kind) (m : ℤ) → IsIn m all_ints → IsOfKind kind (narrowed kind m)
of_kind Boolean m h = bit_in m
of_kind Char m h = char_in m
of_kind Byte m h = let f : FitsSigned w8 (int_wrap w8 m) = SFits-int_wrap w8 m in (omega (arith, ints), omega (arith, ints))
of_kind Short m h = let f : FitsSigned w16 (int_wrap w16 m) = SFits-int_wrap w16 m in (omega (arith, ints), omega (arith, ints))
of_kind Int m h = h

falls_as_it_is : (kind : Kind) (a b : Bounds) (m n : ℤ) → IsIn m a → IsIn n b → IsOfKind kind m
    → IsSomeAnd (case_between Inside (Some a) (Some b) []) (FallsUnder (Narrow kind) m n)
falls_as_it_is kind a b m n p q h = record {
  left_in = p;
  right_in = q;
  answered = (kept kind m h, no_rows m n (narrowed kind m));
  way_taken = (refl, tt);
}

pub narrow_covers : (kind : Kind) (a b : Bounds) (m n : ℤ) → IsIn m all_ints → IsIn m a → IsIn n b
    → Any (FallsUnder (Narrow kind) m n) (narrow_cases kind a b)
narrow_covers kind a b m n f p q =
    any_first _ (cond (are_of_kind kind a) (case_between Inside (Some a) (Some b) [])
    (inside a b (interval_of (least_of kind) (greatest_of kind)) [])) [] (
    if_either (λ (o : Option IntCase). IsSomeAnd o (FallsUnder (Narrow kind) m n)) (are_of_kind kind a) _ _ (λ e.
    let t = and_parts (int_le (least_of kind) a.lo) (int_le a.hi (greatest_of kind)) e in
    let low = t.0 in
    let high = t.1 in
    falls_as_it_is kind a b m n p q (omega (arith, ints), omega (arith, ints))) (λ e.
    let k = of_kind kind m f in
    in_inside (Narrow kind) a b (interval_of (least_of kind) (greatest_of kind)) [] m n (narrowed kind m) p q refl refl
    (in_interval (narrowed kind m) (least_of kind) (greatest_of kind) k.0 k.1) (no_rows m n (narrowed kind m)))
    )
