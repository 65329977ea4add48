-- Lines and words.
use Rattle.std.specs.Prelude.{ℕ, Bool, ◌&&◌, nat_le, ◌==◌, not, List, [], ◌∷◌, length, filter, if◌then◌else◌}
use Rattle.std.specs.List.{list_all}

-- a byte put before the first of some parts
abbrev pub onto : ℕ → List (List ℕ) → List (List ℕ)
onto b [] = (b ∷ []) ∷ []
onto b (part ∷ rest) = (b ∷ part) ∷ rest

-- The parts of a text between the bytes that are `at`. The last part may lack the byte that ends it, and where nothing stands behind
-- the last of these bytes there is no further part.
abbrev pub parts : ℕ → List ℕ → List (List ℕ)
parts at [] = []
parts at (b ∷ bytes) = if b == at then [] ∷ parts at bytes else onto b (parts at bytes)

-- the lines of a text, each ended by a newline, which the last may lack
abbrev pub lines_of : List ℕ → List (List ℕ)
lines_of text = parts 10 text

-- a part of a line is a word: it isn't empty
abbrev pub is_word : List ℕ → Bool
is_word part = not (length part == 0)

-- the words of a line, divided by spaces
abbrev pub words_of : List ℕ → List (List ℕ)
words_of line = filter is_word (parts 32 line)

-- a byte is printable ASCII or a space
abbrev pub is_plain_byte : ℕ → Bool
is_plain_byte b = nat_le 32 b && nat_le b 126

-- a line has no other bytes than printable ASCII and spaces
abbrev pub is_plain : List ℕ → Bool
is_plain line = list_all is_plain_byte line
