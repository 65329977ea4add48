-- Numbers and hexadecimal text.
use Rattle.std.specs.Prelude.{ℕ, ◌+◌, ◌-◌, ◌*◌, ◌^◌, ℤ, pos, negsuc, Bool, true, false, ◌&&◌, ◌==◌, not, nat_le, nat_lt, List, []}
use Rattle.std.specs.Prelude.{◌∷◌, length, Option, Some, None, if◌then◌else◌}
use Rattle.std.specs.List.{list_all}
use Rattle.std.specs.Option.{option_and_then}
use Rattle.std.specs.Int.RustNames.{int_le}
use Rattle.std.proofs.Common.{◌-ℤ◌}
use Rattle.asm_lines.specs.declared.number.Number.{Number}

-- a byte is a decimal digit
abbrev pub is_digit : ℕ → Bool
is_digit b = nat_le 48 b && nat_le b 57

-- a text is one of decimal digits, at least one
abbrev pub is_digits : List ℕ → Bool
is_digits digits = nat_lt 0 (length digits) && list_all is_digit digits

-- the number that is written in decimal by the digits of the number `front` and these behind them
abbrev pub decimal_from : ℕ → List ℕ → ℕ
decimal_from front [] = front
decimal_from front (b ∷ digits) = decimal_from (front * 10 + (b - 48)) digits

-- the number that these decimal digits write
abbrev pub decimal : List ℕ → ℕ
decimal digits = decimal_from 0 digits

-- the number where a field of a class file may hold it: none from 2^64 on
abbrev pub capped : ℕ → Option ℕ
capped n = if nat_lt n (2 ^ 64) then Some n else None

-- the number that a text of decimal digits writes, negative or not; another text is no number
abbrev pub number_of_digits : Bool → List ℕ → Option Number
number_of_digits negative digits = if is_digits digits then Some (record { negative = negative; size = capped (decimal digits) }) else None

-- the number that a word is: decimal digits, with `-` before those of a negative one; `-0` and leading zeros are numbers
abbrev pub number_of : List ℕ → Option Number
number_of [] = None
number_of (b ∷ bytes) = if b == 45 then number_of_digits true bytes else number_of_digits false (b ∷ bytes)

-- the number that is written by digits so far and one more
abbrev pub grown : Option ℕ → ℕ → Option ℕ
grown None b = None
grown (Some n) b = capped (n * 10 + (b - 48))

-- the number as a field of 64 bits without a sign holds it
abbrev pub unsigned_of : Number → Option ℕ
unsigned_of n = option_and_then (λ size. if n.negative && not (size == 0) then None else Some size) n.size

-- the number as a field of 64 bits with a sign holds it
abbrev pub signed_of : Number → Option ℤ
signed_of n = option_and_then (λ size.
    if n.negative then (if nat_lt (2 ^ 63) size then None else Some (pos 0 -ℤ pos size))
    else (if nat_lt size (2 ^ 63) then Some (pos size) else None)) n.size

-- the number as a field of two bytes without a sign holds it
abbrev pub pair_of : Number → Option ℕ
pair_of n = option_and_then (λ m. if nat_lt m (2 ^ 16) then Some m else None) (unsigned_of n)

-- the number as a field of four bytes with a sign holds it
abbrev pub int_of : Number → Option ℤ
int_of n = option_and_then (λ m. if int_le (negsuc (2 ^ 31 - 1)) m && int_le m (pos (2 ^ 31 - 1)) then Some m else None) (signed_of n)

-- the value of a hexadecimal digit of either case
abbrev pub digit_of : ℕ → Option ℕ
digit_of b =
    if is_digit b then Some (b - 48)
    else (if nat_le 97 b && nat_le b 102 then Some (b - 87)
    else (if nat_le 65 b && nat_le b 70 then Some (b - 55) else None))

-- the byte of two hexadecimal digits, none where one of them is no digit
abbrev pub byte_of : Option ℕ → Option ℕ → Option ℕ
byte_of (Some high) (Some low) = Some (16 * high + low)
byte_of _ _ = None

-- a byte put before other bytes, none where one of them is missing
abbrev pub before : Option ℕ → Option (List ℕ) → Option (List ℕ)
before (Some b) (Some bytes) = Some (b ∷ bytes)
before _ _ = None

-- the bytes that a hexadecimal text writes, two digits a byte
abbrev pub bytes_of : List ℕ → Option (List ℕ)
bytes_of [] = Some []
bytes_of (high ∷ []) = None
bytes_of (high ∷ low ∷ rest) = before (byte_of (digit_of high) (digit_of low)) (bytes_of rest)
