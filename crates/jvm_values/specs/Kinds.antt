-- The kinds of numbers that fields and arrays hold: their codes, their ranges, and what is kept of an int.
use Rattle.std.specs.Prelude.{ℕ, ◌==◌, ℤ, pos, negsuc, ◌≤ℤ◌, Option, Some, None, if◌then◌else◌}
use Rattle.std.specs.Int.{w8, w16, int_wrap, int_rem_euclid}
use Rattle.jvm_values.specs.declared.types.Kind.{Kind}
use Rattle.jvm_values.specs.declared.types.Kind.TheVariants.{Boolean, Char, Byte, Short, Int}

-- the number that stands for a kind in `newarray` (JVM specification, section 6.5, table of array type codes)
abbrev pub kind_code : Kind → ℕ
kind_code Boolean = 4
kind_code Char = 5
kind_code Byte = 8
kind_code Short = 9
kind_code Int = 10

-- the kind that a number stands for
abbrev pub kind_of_code : ℕ → Option Kind
kind_of_code code = if code == 4 then Some Boolean else if code == 5 then Some Char else if code == 8 then Some Byte else if code ==
    9 then Some Short else if code == 10 then Some Int else None

-- the kind of a primitive type's letter in a descriptor: `Z`, `C`, `B`, `S` and `I`; the machine has no long, float and double
abbrev pub kind_of_letter : ℕ → Option Kind
kind_of_letter letter =
    if letter == 90 then Some Boolean
    else if letter == 67 then Some Char
    else if letter == 66 then Some Byte
    else if letter == 83 then Some Short
    else if letter == 73 then Some Int
    else None

-- the least number of a kind (JVM specification, section 2.3)
abbrev pub least_of : Kind → ℤ
least_of Boolean = pos 0
least_of Char = pos 0
least_of Byte = negsuc 127
least_of Short = negsuc 32767
least_of Int = negsuc 2147483647

-- the greatest number of a kind (JVM specification, section 2.3)
abbrev pub greatest_of : Kind → ℤ
greatest_of Boolean = pos 1
greatest_of Char = pos 65535
greatest_of Byte = pos 127
greatest_of Short = pos 32767
greatest_of Int = pos 2147483647

-- a number lies in a kind's range
abbrev pub IsOfKind : Kind → ℤ → Type 0
IsOfKind kind n = (least_of kind ≤ℤ n) × (n ≤ℤ greatest_of kind)

-- what a field or an array item of a kind keeps of an int: the lowest bit of a boolean (JVM specification, section
-- 6.5.bastore), and else the number of the kind that is congruent to it (sections 6.5.i2b, 6.5.i2c and 6.5.i2s)
abbrev pub narrowed : Kind → ℤ → ℤ
narrowed Boolean n = int_rem_euclid n (pos 2)
narrowed Char n = int_rem_euclid n (pos 65536)
narrowed Byte n = int_wrap w8 n
narrowed Short n = int_wrap w16 n
narrowed Int n = n
