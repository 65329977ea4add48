-- Lines and words.
use Rattle.std.specs.Prelude.{ℕ, Bool, ◌==◌, not, List, [], ◌∷◌, length, filter, if◌then◌else◌}

-- a byte before the first of the parts
abbrev pub onto : ℕ → List (List ℕ) → List (List ℕ)
onto b [] = (b ∷ []) ∷ []
onto b (part ∷ rest) = (b ∷ part) ∷ rest

-- What stands between the bytes that are `at`. The last part may lack its own; nothing behind the last one is no part.
abbrev pub parts : ℕ → List ℕ → List (List ℕ)
parts at [] = []
parts at (b ∷ bytes) = if b == at then [] ∷ parts at bytes else onto b (parts at bytes)

-- The lines of a text, each ended by a newline, which the last may lack.
abbrev pub lines_of : List ℕ → List (List ℕ)
lines_of text = parts 10 text

-- a part that is not empty, so that spaces side by side divide no empty word
abbrev pub is_word : List ℕ → Bool
is_word part = not (length part == 0)

-- The words of a line, divided by spaces.
abbrev pub words_of : List ℕ → List (List ℕ)
words_of line = filter is_word (parts 32 line)
