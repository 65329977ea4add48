-- The fields of objects (JVM specification, sections 2.7 and 4.5).
use Rattle.std.specs.Prelude.{ℕ, ◌&&◌, not, Bool, false, if◌then◌else◌, List, [], slice_get, reverse, Option, None}
use Rattle.std.specs.List.{filter_map, flat_map}
use Rattle.std.specs.Option.{option_map_or}
use Rattle.jvm_values.specs.declared.types.Slot.{Slot}
use Rattle.class_read.specs.Content.{FieldContent}
use Rattle.class_world.specs.World.{World, line_of, is_static, is_abstract, is_interface}
use Rattle.class_world.specs.Descriptors.{slot_of}

-- What an instance field holds. A field that is static, or of a long, float, double or missing class type, or of an
-- array of one of these, is no part of objects.
abbrev pub field_slot : World → FieldContent → Option Slot
field_slot world f = if is_static f.flags then None else slot_of world f.desc

-- what the fields that a class itself declares add to its objects, in the order of the class file
unfoldable pub own_slots : World → ℕ → List Slot
own_slots world class = option_map_or (λ c. filter_map (field_slot world) c.fields) (slice_get world class) []

-- what the fields of an instance of a class hold: those of the topmost superclass first, those of the class itself last
unfoldable pub fields_of : World → ℕ → List Slot
fields_of world class = flat_map (own_slots world) (reverse (line_of world class))

-- a class has instances of its own: it is neither abstract nor an interface (JVM specification, section 6.5, new)
unfoldable pub can_be_made : World → ℕ → Bool
can_be_made world class = option_map_or (λ c. not (is_abstract c.flags) && not (is_interface c.flags)) (slice_get world class) false
