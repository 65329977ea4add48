-- Names by number: the first has number 0.
use Rattle.std.specs.Prelude.{ℕ, List, [], ◌∷◌, ◌++◌, Option, Some, None, if◌then◌else◌}
use Rattle.std.specs.List.{list_any, position_or_len}
use Rattle.std.specs.Str.{bytes_eq}

-- names by their numbers, the first of which is 0
abbrev pub Names : Type 0
Names = List (List ℕ)

-- more names behind others; none where a name would stand twice
abbrev pub added : Names → Names → Option Names
added names [] = Some names
added names (name ∷ rest) = if list_any (bytes_eq name) names then None else added (names ++ name ∷ []) rest

-- the names with this one, which is put at their end where it is new
abbrev pub with_name : Names → List ℕ → Names
with_name names name = if list_any (bytes_eq name) names then names else names ++ name ∷ []

-- the number of a name; one that is new has the number that it gets at their end
abbrev pub number_of : Names → List ℕ → ℕ
number_of names name = position_or_len (bytes_eq name) names
