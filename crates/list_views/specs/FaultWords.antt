-- How faults are put into words: a name, and then each field as ` name=value`.
use Rattle.std.specs.Prelude.{ℕ, List, [], ◌∷◌, ◌++◌, codes}
use Rattle.std.specs.Fmt.{decimal}

-- pieces, one behind the other
abbrev pub joined : List (List ℕ) → List ℕ
joined [] = []
joined (piece ∷ pieces) = piece ++ joined pieces

-- a field that holds bytes, as they are
abbrev pub bytes_field : List ℕ → List ℕ → List ℕ
bytes_field name value = joined (codes " " ∷ name ∷ codes "=" ∷ value ∷ [])

-- a field that holds a number, in digits
abbrev pub number_field : List ℕ → ℕ → List ℕ
number_field name value = bytes_field name (decimal value)
