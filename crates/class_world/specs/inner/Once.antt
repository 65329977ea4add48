-- Lists of classes without repeats, as linked worlds keep them.
use Rattle.std.specs.Prelude.{◌≡◌, ℕ, ◌<◌, if◌then◌else◌, List, [], ◌∷◌, ◌++◌, length, nat_eq, slice_index_or, Option}
use Rattle.std.specs.List.{list_any}
use Rattle.class_world.specs.World.{World, super_of, interfaces_of, listed}
use Rattle.class_world.specs.Resolve.{first_found, superinterfaces_of}

-- a number behind those that are there, unless it is one of them
abbrev pub with_number : List ℕ → ℕ → List ℕ
with_number numbers x = if list_any (nat_eq x) numbers then numbers else numbers ++ x ∷ []

-- a list of numbers with further ones behind, each that isn't there yet
abbrev pub with_numbers : List ℕ → List ℕ → List ℕ
with_numbers numbers [] = numbers
with_numbers numbers (x ∷ xs) = with_numbers (with_number numbers x) xs

-- the numbers of a list, each where it comes first
abbrev pub once : List ℕ → List ℕ
once numbers = with_numbers [] numbers

-- the direct superinterfaces of a class, each once
unfoldable pub interfaces_once : World → ℕ → List ℕ
interfaces_once world class = once (interfaces_of world class)

-- the superclass and the direct superinterfaces of a class, each of these once
unfoldable pub supers_once : World → ℕ → List ℕ
supers_once world class = listed (super_of world class) ++ interfaces_once world class

-- A row to seek in: whatever is sought in the superinterfaces of a class is found first where the row has it first.
abbrev pub IsSought : World → ℕ → List ℕ → Type 0
IsSought world class row = (place : ℕ → Option ℕ) → first_found place row ≡ first_found place (superinterfaces_of world class)

-- a row for each of the first classes
pub record AreSought (world : World) (count : ℕ) (rows : List (List ℕ)) : Type 0 where
  pub all : length rows ≡ count
  pub each : (class : ℕ) → class < count → IsSought world class (slice_index_or rows class [])
