-- Marks on places, and the places that are noted when they are first marked.
use Rattle.std.specs.Prelude.{◌≡◌, ℕ, Bool, true, false, List, [], ◌∷◌, ◌++◌, slice_index_or, slice_set, if◌then◌else◌}
use Rattle.jvm_values.specs.declared.heap.Value.{Value}
use Rattle.jvm_values.specs.declared.heap.Value.TheVariants.{Int, Null, Ref}

-- a place is marked
abbrev pub IsMarked : List Bool → ℕ → Type 0
IsMarked marks place = slice_index_or marks place false ≡ true

-- the marks after the object that a value names is marked; an int and null name none
abbrev pub marks_after : Value → List Bool → List Bool
marks_after (Int n) marks = marks
marks_after Null marks = marks
marks_after (Ref r) marks = if slice_index_or marks r false then marks else slice_set marks r true

-- the places still to be gone on from after that: the object's place comes last where it was not marked before
abbrev pub todo_after : Value → List Bool → List ℕ → List ℕ
todo_after (Int n) marks todo = todo
todo_after Null marks todo = todo
todo_after (Ref r) marks todo = if slice_index_or marks r false then todo else todo ++ r ∷ []

-- the marks after the objects that some values name are marked, one after another
unfoldable pub all_marks : List Value → List Bool → List Bool
all_marks [] marks = marks
all_marks (value ∷ values) marks = all_marks values (marks_after value marks)

-- the places still to be gone on from after some values' objects are marked, one after another
unfoldable pub all_todo : List Value → List Bool → List ℕ → List ℕ
all_todo [] marks todo = todo
all_todo (value ∷ values) marks todo = all_todo values (marks_after value marks) (todo_after value marks todo)
