-- Marking what is above a class: the marks and the list of what is to be gone through, after some classes are marked.
use Rattle.std.specs.Prelude.{◌≡◌, ℕ, ◌<◌, Bool, true, false, if◌then◌else◌, List, [], ◌∷◌, ◌++◌, length, slice_index_or, slice_set}
use Rattle.class_world.specs.World.{leads_up}

-- the marks after all of these are marked
abbrev pub marks_after : List Bool → List ℕ → List Bool
marks_after marks [] = marks
marks_after marks (b ∷ bs) = marks_after (slice_set marks b true) bs

-- the list after all of these are marked: those that were not marked are put at its end
abbrev pub todo_after : List Bool → List ℕ → List ℕ → List ℕ
todo_after marks todo [] = todo
todo_after marks todo (b ∷ bs) = todo_after (slice_set marks b true) (if slice_index_or marks b false then todo else todo ++ b ∷ []) bs

-- what a table says of a class, nothing past its end
abbrev pub listed_at : List (List ℕ) → ℕ → List ℕ
listed_at table class = slice_index_or table class []

-- a row for a class: it has a mark for each class, and those above the class are marked
pub record IsRow (supers : List (List ℕ)) (class : ℕ) (row : List Bool) : Type 0 where
  pub len : length row ≡ length supers
  pub marked : (b : ℕ) → b < length supers → slice_index_or row b false ≡ leads_up (listed_at supers) (length supers) class b

-- a table names classes that it has
pub record IsClosed (supers : List (List ℕ)) : Type 0 where
  pub within : (a k : ℕ) → k < length (listed_at supers a) → slice_index_or (listed_at supers a) k 0 < length supers
