-- What the operators over ints give, and when the conditions between ints hold (JVM specification, section 6.5).
--
-- Ints are the numbers of 32 bits with a sign. The machine and the intervals of abstract ints both cite this.
use Rattle.std.specs.Prelude.{ℕ, ◌/◌, ◌%◌, ◌^◌, ℤ, pos, ◌+ℤ◌, ◌-ℤ◌, ◌*ℤ◌, int_div, int_rem, int_lt, int_le, Bool, not, Option, Some}
use Rattle.std.specs.Prelude.{None, if◌then◌else◌}
use Rattle.std.specs.Ordering.{int_eq}
use Rattle.std.specs.Int.{w32, int_wrap, cast_signed, cast_unsigned, int_shr, int_bit_and, int_bit_or, int_bit_xor}
use Rattle.jvm_values.specs.declared.ints.IntOp.{IntOp}
use Rattle.jvm_values.specs.declared.ints.IntOp.TheVariants.{Add, Sub, Mul, Div, Rem, Shl, Shr, Ushr, And, Or, Xor, Narrow}
use Rattle.jvm_values.specs.declared.ints.Cond.{Cond}
use Rattle.jvm_values.specs.declared.ints.Cond.TheVariants.{Eq, Ne, Lt, Ge, Gt, Le}
use Rattle.jvm_values.specs.Kinds.{narrowed}

-- how far a shift goes: the low five bits of the right operand
abbrev pub shift_count : ℤ → ℕ
shift_count right = cast_unsigned w32 right % 32

-- the quotient rounded toward zero, where the divisor is not 0; that of the least int by -1 is the least int (section
-- 6.5.idiv)
abbrev pub int_quotient : ℤ → ℤ → Option ℤ
int_quotient left right = if int_eq right (pos 0) then None else Some (int_wrap w32 (int_div left right))

-- the remainder of that division, which has the dividend's sign (section 6.5.irem)
abbrev pub int_remainder : ℤ → ℤ → Option ℤ
int_remainder left right = if int_eq right (pos 0) then None else Some (int_rem left right)

-- the product with a power of two, wrapped (section 6.5.ishl)
abbrev pub int_shifted_left : ℤ → ℤ → ℤ
int_shifted_left left right = int_wrap w32 (left *ℤ pos (2 ^ shift_count right))

-- the quotient by a power of two, rounded down (section 6.5.ishr)
abbrev pub int_shifted_right : ℤ → ℤ → ℤ
int_shifted_right left right = int_shr left (shift_count right)

-- the 32 bits, read as a number without a sign, divided by a power of two and rounded down (section 6.5.iushr)
abbrev pub int_shifted_right_with_zeros : ℤ → ℤ → ℤ
int_shifted_right_with_zeros left right = cast_signed w32 (cast_unsigned w32 left / 2 ^ shift_count right)

-- what an operator gives on two ints; none where it divides by 0
abbrev pub int_result : IntOp → ℤ → ℤ → Option ℤ
int_result Add left right = Some (int_wrap w32 (left +ℤ right))
int_result Sub left right = Some (int_wrap w32 (left -ℤ right))
int_result Mul left right = Some (int_wrap w32 (left *ℤ right))
int_result Div left right = int_quotient left right
int_result Rem left right = int_remainder left right
int_result Shl left right = Some (int_shifted_left left right)
int_result Shr left right = Some (int_shifted_right left right)
int_result Ushr left right = Some (int_shifted_right_with_zeros left right)
int_result And left right = Some (int_bit_and w32 left right)
int_result Or left right = Some (int_bit_or w32 left right)
int_result Xor left right = Some (int_bit_xor w32 left right)
int_result (Narrow kind) left right = Some (narrowed kind left)

-- a condition holds between two ints (section 6.5.if_icmp<cond>)
abbrev pub cond_holds : Cond → ℤ → ℤ → Bool
cond_holds Eq left right = int_eq left right
cond_holds Ne left right = not (int_eq left right)
cond_holds Lt left right = int_lt left right
cond_holds Ge left right = int_le right left
cond_holds Gt left right = int_lt right left
cond_holds Le left right = int_le left right
