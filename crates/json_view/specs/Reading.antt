-- What each reader of a value with its place answers: the value asked for, or the fault that is due.
use Rattle.std.specs.Prelude.{ℕ, ℤ, List, Bool, false, is_some, Option, Some, None, option_map, option_and_then, Result, Ok, Err}
use Rattle.std.specs.Prelude.{◌&&◌, if◌then◌else◌, int_le}
use Rattle.std.specs.Option.{ok_or, option_map_or}
use Rattle.serde_json.specs.Data.{Data}
use Rattle.serde_json.specs.Events.{items_len}
use Rattle.serde_json.specs.Find.{get_member, at, as_object, as_array, as_number, as_integer, as_str, as_bool}
use Rattle.list_views.specs.Results.{◌>>=◌}
use Rattle.json_view.specs.Located.{Located}
use Rattle.json_view.specs.Names.{least_unlisted, first_missing}
use Rattle.json_view.specs.Place.{member_pointer, item_pointer}
use Rattle.json_view.specs.declared.fault.JsonFault.{JsonFault}
use Rattle.json_view.specs.declared.fault.JsonFault.TheVariants.{WrongKind, MissingField, UnknownField, OutOfRange}

-- the value, if it is of the kind asked for
abbrev pub of_kind : {A : Type 0} → (Data → Option A) → Located → Result A JsonFault
of_kind as_kind here = ok_or (as_kind here.value) (WrongKind here.place)

-- the first of two faults that is there, or a good answer
abbrev pub first_fault : Option JsonFault → Option JsonFault → Result (Unit {0}) JsonFault
first_fault (Some first) second = Err first
first_fault None (Some second) = Err second
first_fault None None = Ok tt

-- the fault of a member that no reader asked for, with the pointer to it
abbrev pub unknown_field : List ℕ → List ℕ → JsonFault
unknown_field place name = UnknownField (member_pointer place name)

-- the fault of a member that is wanted and is not there, with the pointer at which it would stand
abbrev pub missing_field : List ℕ → List ℕ → JsonFault
missing_field place name = MissingField (member_pointer place name)

-- An object with exactly the listed members: the least unlisted name is a fault, and then the first missing one.
unfoldable pub only_of : List ℕ → Located → Result (Unit {0}) JsonFault
only_of names here = of_kind as_object here >>= λ members. first_fault
    (option_map (unknown_field here.place) (least_unlisted names members))
    (option_map (missing_field here.place) (first_missing names members))

-- a member's value with its place
abbrev pub at_member : List ℕ → List ℕ → Data → Located
at_member place name value = record { value = value; place = member_pointer place name }

-- the value of an object's member
unfoldable pub field_of : List ℕ → Located → Result Located JsonFault
field_of name here = of_kind as_object here >>= λ members. ok_or (option_map (at_member here.place name) (get_member name members))
    (missing_field here.place name)

-- whether the value is an object that has the member
abbrev pub has_field : List ℕ → Located → Bool
has_field name here = option_map_or (λ members. is_some (get_member name members)) (as_object here.value) false

-- how many items a list has, and 0 for what is no list
abbrev pub item_count : Data → ℕ
item_count value = option_map_or items_len (as_array value) 0

-- the number of a list's items
unfoldable pub items_of : Located → Result ℕ JsonFault
items_of here = of_kind (λ value. option_map items_len (as_array value)) here

-- an item's value with its place
abbrev pub at_item : List ℕ → ℕ → Data → Located
at_item place n value = record { value = value; place = item_pointer place n }

-- the item n of a list
unfoldable pub item_of : ℕ → Located → Option Located
item_of n here = option_map (at_item here.place n) (at n here.value)

-- the number that `serde_json` keeps as a u64 or an i64, if it is one
abbrev pub whole_number_of : Data → Option ℤ
whole_number_of value = option_and_then as_integer (as_number value)

-- the number, if it lies in the range, of which both limits are part
abbrev pub within : List ℕ → ℤ → ℤ → ℤ → Result ℤ JsonFault
within place low high number = if int_le low number && int_le number high then Ok number else Err (OutOfRange place)

-- a whole number from `low` to `high`
unfoldable pub int_of : ℤ → ℤ → Located → Result ℤ JsonFault
int_of low high here = of_kind whole_number_of here >>= within here.place low high

-- the bytes of a string's text
unfoldable pub text_of : Located → Result (List ℕ) JsonFault
text_of here = of_kind as_str here

-- a truth value
unfoldable pub flag_of : Located → Result Bool JsonFault
flag_of here = of_kind as_bool here
