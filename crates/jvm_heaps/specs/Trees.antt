-- Whether values name an object that was named before.
use Rattle.std.specs.Prelude.{Bool, true, false, List, [], ◌∷◌, slice_index_or, if◌then◌else◌}
use Rattle.jvm_values.specs.declared.heap.Value.{Value}
use Rattle.jvm_values.specs.declared.heap.Value.TheVariants.{Int, Null, Ref}
use Rattle.jvm_values.specs.declared.heap.Object.{Object}
use Rattle.jvm_values.specs.Heaps.{values_of}
use Rattle.jvm_heaps.specs.Marks.{marks_after}

-- what is said after a value: no where it names what is marked, and else what was said before
abbrev pub new_after : Value → List Bool → Bool → Bool
new_after (Int n) marks new = new
new_after Null marks new = new
new_after (Ref r) marks new = if slice_index_or marks r false then false else new

-- the same after some values, one after another, each marking what it names
unfoldable pub all_new : List Value → List Bool → Bool → Bool
all_new [] marks new = new
all_new (value ∷ values) marks new = all_new values (marks_after value marks) (new_after value marks new)

-- the values of an object inside the region
abbrev pub values_if : Bool → Object → List Value
values_if true object = values_of object
values_if false object = []
