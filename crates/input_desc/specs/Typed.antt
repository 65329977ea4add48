-- Values and objects that a text gives, tested. Of an object that is none of the world's nothing has a type.
use Rattle.std.specs.Prelude.{ℕ, ◌+◌, not, ◌==◌, ℤ, ◌&&◌, Bool, true, false, if◌then◌else◌, nat_le, nat_lt, int_le, List, [], ◌∷◌}
use Rattle.std.specs.Prelude.{length, slice_get, Option, Some, None, option_and_then, option_map, is_none}
use Rattle.std.specs.List.{list_all}
use Rattle.std.specs.Option.{option_map_or}
use Rattle.jvm_values.specs.declared.types.Kind.{Kind}
use Rattle.jvm_values.specs.declared.types.Ty.{Ty}
use Rattle.jvm_values.specs.declared.types.Slot.{Slot}
use Rattle.jvm_values.specs.declared.types.Slot.TheVariants as slots
use Rattle.jvm_values.specs.declared.heap.Value.{Value}
use Rattle.jvm_values.specs.declared.heap.Value.TheVariants as values
use Rattle.jvm_values.specs.declared.heap.Object.{Object}
use Rattle.jvm_values.specs.declared.heap.Object.TheVariants.{Instance, Nums, Refs}
use Rattle.jvm_values.specs.Kinds.{least_of, greatest_of}
use Rattle.jvm_values.specs.TypedHeaps.{WorldTypes, type_of}
use Rattle.class_world.specs.World.{World, class_of}
use Rattle.input_text.specs.declared.texts.ObjectText.{ObjectText}
use Rattle.input_text.specs.declared.texts.ObjectText.TheVariants as texts
use Rattle.input_desc.specs.TypeNames.{type_named}

-- ---- objects

-- the object that a text says, where its names are there
unfoldable pub object_of : World → ObjectText → Option Object
object_of world (texts.Instance class fields) = option_map (λ number. Instance number fields) (class_of world class)
object_of world (texts.Nums kind items) = Some (Nums kind items)
object_of world (texts.Refs element items) = option_map (λ t. Refs t items) (type_named world element)

-- the objects of a text by their numbers; None for one whose names aren't there
abbrev pub Objects : Type 0
Objects = List (Option Object)

-- the object of a number, where it is there
abbrev pub object_at : Objects → ℕ → Option Object
object_at objects r = option_and_then (λ found. found) (slice_get objects r)

-- ---- two lists, item by item

-- the number of the first place at which a test doesn't take the items of both lists, from number n on
abbrev pub first_unfit : {A B : Type 0} → (A → B → Bool) → ℕ → List A → List B → Option ℕ
first_unfit test n [] ys = None
first_unfit test n (x ∷ xs) [] = None
first_unfit test n (x ∷ xs) (y ∷ ys) = if test x y then first_unfit test (n + 1) xs ys else Some n

-- the lists are of one length, and a test takes the items at each place
abbrev pub all_fit : {A B : Type 0} → (A → B → Bool) → List A → List B → Bool
all_fit test xs ys = (length xs == length ys) && is_none (first_unfit test 0 xs ys)

-- ---- values

-- a value is null, or an object whose type is this one or below it
abbrev pub has_type : WorldTypes → Objects → Ty → Value → Bool
has_type types objects t (values.Int n) = false
has_type types objects t values.Null = true
has_type types objects t (values.Ref r) = option_map_or (λ object. types.sub (type_of object) t) (object_at objects r) false

-- a number lies in the range of a kind (JVM specification, sections 2.3.1 and 2.3.4)
abbrev pub is_of_kind : Kind → ℤ → Bool
is_of_kind kind n = int_le (least_of kind) n && int_le n (greatest_of kind)

-- a slot can hold a value: a number of its kind, or a value of its erased type
abbrev pub is_held : WorldTypes → Objects → Slot → Value → Bool
is_held types objects (slots.Num kind) (values.Int n) = is_of_kind kind n
is_held types objects (slots.Num kind) values.Null = false
is_held types objects (slots.Num kind) (values.Ref r) = false
is_held types objects (slots.Ref t) value = has_type types objects (types.erase t) value

-- ---- typed objects

-- an object is typed: an instance of a class of the world that can be made, with a value for each field; an array of at most
-- 2^31 - 1 items, each of its kind or type, and of at most 255 dimensions (JVM specification, section 4.3.2)
abbrev pub is_typed : WorldTypes → Objects → Object → Bool
is_typed types objects (Instance class fields) = nat_lt class types.classes
    && (types.can_be_made class && all_fit (is_held types objects) (types.fields class) fields)
is_typed types objects (Nums kind items) = nat_le (length items) 2147483647 && list_all (is_of_kind kind) items
is_typed types objects (Refs element items) = nat_le (length items) 2147483647
    && (nat_lt element.dims 255 && list_all (has_type types objects element) items)

-- an object isn't there, or isn't typed
abbrev pub is_bad : WorldTypes → Objects → Option Object → Bool
is_bad types objects (Some object) = not (is_typed types objects object)
is_bad types objects None = true
