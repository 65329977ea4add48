-- The words of a line: names, numbers, and the terms of a row.
use Rattle.std.specs.Prelude.{ℕ, ◌-◌, ◌^◌, ℤ, Bool, true, false, ◌&&◌, ◌||◌, ◌==◌, nat_le, nat_lt, not, List, [], ◌∷◌, length, take}
use Rattle.std.specs.Prelude.{drop, Option, Some, None, codes, unsigned_abs, if◌then◌else◌}
use Rattle.std.specs.List.{list_all}
use Rattle.std.specs.Str.{bytes_eq}
use Rattle.list_views.specs.Options.{◌>>=◌}
use Rattle.its_front.specs.declared.text_lines.numbers.Number.{Number}
use Rattle.its_front.specs.text_lines.Numbers.{is_digit, number_of, signed_of}
use Rattle.its_front.specs.declared.words.Term.{Term}

-- the words of a line, in order
abbrev pub Words : Type 0
Words = List (List ℕ)

-- a byte is a letter of ASCII
abbrev pub is_letter : ℕ → Bool
is_letter b = (nat_le 97 b && nat_le b 122) || (nat_le 65 b && nat_le b 90)

-- a byte may stand in a name: it is a letter, a digit, `_` or `.`
abbrev pub is_name_byte : ℕ → Bool
is_name_byte b = is_letter b || (is_digit b || (b == 95 || b == 46))

-- a word is a name of a variable or of a location
abbrev pub is_name : List ℕ → Bool
is_name word = nat_lt 0 (length word) && list_all is_name_byte word

-- the words are names, at least one
abbrev pub are_names : Words → Bool
are_names words = nat_lt 0 (length words) && list_all is_name words

-- a word without its last byte, which in the name of a value after the rule is `'`
abbrev pub front : List ℕ → List ℕ
front word = take (length word - 1) word

-- a word names the value of a variable after the rule: a name with `'` behind it
abbrev pub is_primed : List ℕ → Bool
is_primed word = bytes_eq (drop (length word - 1) word) (codes "'") && is_name (front word)

-- a term: a number, and the value of a variable before the rule or after it
abbrev pub term_of : Number → List ℕ → Option Term
term_of times word =
    if is_name word then Some (record { times = times; name = word; after = false })
    else (if is_primed word then Some (record { times = times; name = front word; after = true }) else None)

-- an item before others, none where one of them is missing
abbrev pub before : {A : Type 0} → Option A → Option (List A) → Option (List A)
before (Some item) (Some rest) = Some (item ∷ rest)
before _ _ = None

-- a term that two words say
abbrev pub pair_of : List ℕ → List ℕ → Option Term
pair_of number value = number_of number >>= λ times. term_of times value

-- the terms of a row, two words each
abbrev pub terms_of : Words → Option (List Term)
terms_of [] = Some []
terms_of (number ∷ []) = None
terms_of (number ∷ value ∷ rest) = before (pair_of number value) (terms_of rest)

-- the constant of a row, and its terms
abbrev pub row_words : Words → Option (Number × List Term)
row_words [] = None
row_words (number ∷ rest) = number_of number >>= λ constant. terms_of rest >>= λ terms. Some (constant, terms)

-- two words that are the names of the locations of a rule
abbrev pub both_names : List ℕ → List ℕ → Option (List ℕ × List ℕ)
both_names one other = if is_name one && is_name other then Some (one, other) else None

-- the words of a line that are exactly two names
abbrev pub two_names : Words → Option (List ℕ × List ℕ)
two_names (one ∷ other ∷ []) = both_names one other
two_names words = None

-- a number that is at most `most` in size, none where it is greater
abbrev pub ranged : ℕ → Number → Option ℤ
ranged most number = signed_of number >>= λ n. (if nat_le (unsigned_abs n) most then Some n else None)

-- the most that a coefficient of a row may be in size
abbrev pub most_coefficient : ℕ
most_coefficient = 2 ^ 31

-- the most that the constant of a row may be in size
abbrev pub most_constant : ℕ
most_constant = 2 ^ 40
