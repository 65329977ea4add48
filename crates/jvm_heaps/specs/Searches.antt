-- A search for cycles: places are entered, and left once all that they lead to has been left.
use Rattle.std.specs.Prelude.{ℕ, Bool, true, false, List, [], ◌∷◌, Option, Some, None, slice_get, slice_index_or, slice_set, if◌then◌else◌}
use Rattle.std.specs.Option.{option_map_or}
use Rattle.jvm_values.specs.declared.heap.Value.{Value}
use Rattle.jvm_values.specs.declared.heap.Value.TheVariants as values
use Rattle.jvm_values.specs.declared.heap.Heap.{Heap}
use Rattle.jvm_values.specs.Heaps.{values_of}
use Rattle.jvm_heaps.specs.declared.dags.Turn.{Turn}
use Rattle.jvm_heaps.specs.declared.dags.Turn.TheVariants.{Enter, Leave}

-- the place of a turn
abbrev pub place_of : Turn → ℕ
place_of (Enter a) = a
place_of (Leave a) = a

-- the turns after a value: the object that it names is entered next; an int and null name none
abbrev pub enter_after : Value → List Turn → List Turn
enter_after (values.Int n) todo = todo
enter_after values.Null todo = todo
enter_after (values.Ref r) todo = Enter r ∷ todo

-- the turns after some values, one after another, so that the last value's object is entered first
unfoldable pub all_enter : List Value → List Turn → List Turn
all_enter [] todo = todo
all_enter (value ∷ values) todo = all_enter values (enter_after value todo)

-- the values that the object of a number holds; none where no object has the number
abbrev pub values_in : Heap → ℕ → List Value
values_in heap a = option_map_or values_of (slice_get heap.objects a) []

-- what was entered, what was left, and what is to be done, the next first
pub record Search : Type 0 where
  pub entered : List Bool
  pub left : List Bool
  pub todo : List Turn

-- a place that is entered first is left after all that it leads to
abbrev pub entering : Heap → ℕ → Search → Search
entering heap a s = record { entered = slice_set s.entered a true; left = s.left; todo = all_enter (values_in heap a) (Leave a ∷ s.todo) }

-- one turn; none where it comes to a place that was entered and not left, which lies on a cycle
unfoldable pub turned : Heap → Turn → Search → Option Search
turned heap (Leave a) s = Some (record s { left = slice_set s.left a true })
turned heap (Enter a) s =
    if slice_index_or s.entered a false
    then (if slice_index_or s.left a false then Some s else None)
    else Some (entering heap a s)

-- what a turn of the code says: it goes on, or came to a cycle
abbrev pub goes_on : Bool → Search → Option Search
goes_on true s = Some s
goes_on false s = None
