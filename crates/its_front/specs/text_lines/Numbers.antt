-- Whole numbers in decimal digits.
use Rattle.std.specs.Prelude.{ℕ, ◌+◌, ◌-◌, ◌*◌, ◌^◌, ℤ, pos, Bool, true, false, ◌&&◌, ◌==◌, nat_le, nat_lt, List, [], ◌∷◌, length}
use Rattle.std.specs.Prelude.{Option, Some, None, if◌then◌else◌}
use Rattle.std.specs.List.{list_all}
use Rattle.std.specs.Option.{option_and_then}
use Rattle.std.proofs.Common.{◌-ℤ◌}
use Rattle.its_front.specs.declared.text_lines.numbers.Number.{Number}

-- a byte is one of the digits `0` to `9`
abbrev pub is_digit : ℕ → Bool
is_digit b = nat_le 48 b && nat_le b 57

-- one digit or more, and nothing else
abbrev pub is_digits : List ℕ → Bool
is_digits digits = nat_lt 0 (length digits) && list_all is_digit digits

-- the number whose digits stand behind those of `front`
abbrev pub decimal_from : ℕ → List ℕ → ℕ
decimal_from front [] = front
decimal_from front (b ∷ digits) = decimal_from (front * 10 + (b - 48)) digits

-- the number that digits write in the decimal system
abbrev pub decimal : List ℕ → ℕ
decimal digits = decimal_from 0 digits

-- a number that a field of 64 bits holds, and nothing from 2^64 on
abbrev pub capped : ℕ → Option ℕ
capped n = if nat_lt n (2 ^ 64) then Some n else None

-- the number of these digits, with its sign; none where a byte is no digit or there is none at all
abbrev pub number_of_digits : Bool → List ℕ → Option Number
number_of_digits negative digits = if is_digits digits then Some (record { negative = negative; size = capped (decimal digits) }) else None

-- Decimal digits, with `-` before those of a negative number. `-0` and leading zeros are numbers.
abbrev pub number_of : List ℕ → Option Number
number_of [] = None
number_of (b ∷ bytes) = if b == 45 then number_of_digits true bytes else number_of_digits false (b ∷ bytes)

-- the number so far, and one more digit
abbrev pub grown : Option ℕ → ℕ → Option ℕ
grown None b = None
grown (Some n) b = capped (n * 10 + (b - 48))

-- the number of a field of 64 bits with a sign
abbrev pub signed_of : Number → Option ℤ
signed_of n = option_and_then (λ size.
    if n.negative then (if nat_lt (2 ^ 63) size then None else Some (pos 0 -ℤ pos size))
    else (if nat_lt size (2 ^ 63) then Some (pos size) else None)) n.size
