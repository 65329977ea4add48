-- What operators over ints give, and what kinds of numbers keep, lies in the ranges of ints and of these kinds.
use Rattle.std.proofs.Common.{◌≡◌, ℕ, zero, suc, ◌/◌, ◌^◌, ◌<◌, ◌≤◌, ℤ, pos, negsuc, ◌+ℤ◌, ◌-ℤ◌, ◌*ℤ◌, ◌≤ℤ◌, Bool, true, false}
use Rattle.std.proofs.Common.{cond, Option, Some, None, FitsSigned, to_z, of_z, w8, w16, w32, refl, sym, subst, arith}
use Rattle.std.specs.Prelude.{IfSome, int_div, int_rem, unsigned_abs, bit_and, bit_or, bit_xor}
use Rattle.std.specs.Int.{int_wrap, int_rem_euclid, int_shr, int_min, int_max}
use Rattle.std.specs.Ordering.{int_eq}
use Rattle.std.proofs.Math.Nat.{div-le_self, mod-le}
use Rattle.std.proofs.lemmas.Int.{ints, clamps, SFits-int_wrap}
use Rattle.jvm_values.proofs.IntRanges.{remainder_near, shift_near, bit_in, char_in}
use Rattle.jvm_values.specs.Kinds.{IsOfKind, narrowed}
use Rattle.jvm_values.specs.Ints.{int_result, shift_count}
use Rattle.jvm_values.specs.declared.ints.IntOp.{IntOp}
use Rattle.jvm_values.specs.declared.ints.IntOp.TheVariants.{Add, Sub, Mul, Div, Rem, Shl, Shr, Ushr, And, Or, Xor, Narrow}
use Rattle.jvm_values.specs.declared.types.Kind.{Kind}
use Rattle.jvm_values.specs.declared.types.Kind.TheVariants as kinds
use Rattle.jvm_values.specs.declared.types.Kind.TheVariants.{Boolean, Char, Byte, Short, Int}

-- a number of a kind is an int
pub of_int : (kind : Kind) (n : ℤ) → IsOfKind kind n → IsOfKind Int n
of_int Boolean n h = let l = h.0 in let k = h.1 in (omega (arith, ints), omega (arith, ints))
of_int Char n h = let l = h.0 in let k = h.1 in (omega (arith, ints), omega (arith, ints))
of_int Byte n h = let l = h.0 in let k = h.1 in (omega (arith, ints), omega (arith, ints))
of_int Short n h = let l = h.0 in let k = h.1 in (omega (arith, ints), omega (arith, ints))
of_int Int n h = h

pub wrapped_is_int : (n : ℤ) → IsOfKind Int (int_wrap w32 n)
wrapped_is_int n = let f : FitsSigned w32 (int_wrap w32 n) = SFits-int_wrap w32 n in (omega (arith, ints), omega (arith, ints))

bits_are_int : (n : ℕ) → IsOfKind Int (to_z w32 n)
bits_are_int n = (omega (arith, ints), omega (arith, ints))

-- what is narrowed is of the kind
pub narrowed_is : (kind : Kind) (m : ℤ) → IsOfKind Int m → IsOfKind kind (narrowed kind m)
narrowed_is Boolean m h = bit_in m
narrowed_is Char m h = char_in m
narrowed_is Byte m h = let f : FitsSigned w8 (int_wrap w8 m) = SFits-int_wrap w8 m in (omega (arith, ints), omega (arith, ints))
narrowed_is Short m h = let f : FitsSigned w16 (int_wrap w16 m) = SFits-int_wrap w16 m in (omega (arith, ints), omega (arith, ints))
narrowed_is Int m h = h

near_is_int : (m r : ℤ) → IsOfKind Int m → int_min m (pos 0) ≤ℤ r → r ≤ℤ int_max m (pos 0) → IsOfKind Int r
near_is_int m r h a b = let l = h.0 in let k = h.1 in (omega (arith, ints, clamps), omega (arith, ints, clamps))

shifted_is_int : (m r : ℤ) → IsOfKind Int m → int_min m (pos 0) ≤ℤ r → r ≤ℤ int_max m (negsuc 0) → IsOfKind Int r
shifted_is_int m r h a b = let l = h.0 in let k = h.1 in (omega (arith, ints, clamps), omega (arith, ints, clamps))

unless_zero : (b : Bool) (r : ℤ) → IsOfKind Int r → IfSome (cond b None (Some r)) (IsOfKind Int)
unless_zero true r h = tt
unless_zero false r h = h

-- what an operator gives on ints is an int
pub result_is : (op : IntOp) (a b : ℤ) → IsOfKind Int a → IfSome (int_result op a b) (IsOfKind Int)
result_is Add a b h = wrapped_is_int (a +ℤ b)
result_is Sub a b h = wrapped_is_int (a -ℤ b)
result_is Mul a b h = wrapped_is_int (a *ℤ b)
result_is Div a b h = unless_zero (int_eq b (pos 0)) (int_wrap w32 (int_div a b)) (wrapped_is_int (int_div a b))
result_is Rem a b h = let n = remainder_near a b in unless_zero (int_eq b (pos 0)) (int_rem a b) (near_is_int a (int_rem a b) h n.0 n.1)
result_is Shl a b h = wrapped_is_int (a *ℤ pos (2 ^ shift_count b))
result_is Shr a b h = let n = shift_near a (shift_count b) in shifted_is_int a (int_shr a (shift_count b)) h n.0 n.1
result_is Ushr a b h = bits_are_int (of_z w32 a / 2 ^ shift_count b)
result_is And a b h = bits_are_int (bit_and (of_z w32 a) (of_z w32 b))
result_is Or a b h = bits_are_int (bit_or (of_z w32 a) (of_z w32 b))
result_is Xor a b h = bits_are_int (bit_xor (of_z w32 a) (of_z w32 b))
result_is (Narrow kind) a b h = of_int kind (narrowed kind a) (narrowed_is kind a h)

-- 0 is of each kind
pub zero_is : (kind : Kind) → IsOfKind kind (pos 0)
zero_is Boolean = (omega (arith, ints), omega (arith, ints))
zero_is Char = (omega (arith, ints), omega (arith, ints))
zero_is Byte = (omega (arith, ints), omega (arith, ints))
zero_is Short = (omega (arith, ints), omega (arith, ints))
zero_is Int = (omega (arith, ints), omega (arith, ints))
