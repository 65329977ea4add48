-- Reference types by their texts: the name of a class, or the descriptor of an array type (JVM specification, SE 8,
-- sections 4.2.1 and 4.3.2).
use Rattle.std.specs.Prelude.{ℕ, ◌==◌, if◌then◌else◌, List, Option, Some, None, option_and_then, option_map}
use Rattle.class_base.specs.declared.types.FieldType.{FieldType}
use Rattle.class_base.specs.ClassNames.{is_class_name}
use Rattle.class_base.specs.Types.{field_type}
use Rattle.jvm_values.specs.declared.types.Ty.{Ty}
use Rattle.jvm_values.specs.declared.types.Slot.TheVariants as slots
use Rattle.jvm_values.specs.Subtyping.{class_type}
use Rattle.class_world.specs.World.{World, class_of}
use Rattle.class_world.specs.Descriptors.{meaning_of}
use Rattle.class_world.specs.declared.meaning.Meaning.{Meaning}
use Rattle.class_world.specs.declared.meaning.Meaning.TheVariants.{Known, Unsupported, Missing}

-- the reference type that a descriptor means, if it means one of the world
abbrev pub reference_of : Meaning → Option Ty
reference_of (Known (slots.Ref t)) = Some t
reference_of (Known (slots.Num kind)) = None
reference_of Unsupported = None
reference_of (Missing name) = None

-- the array type that a descriptor means; a descriptor without dimensions means none
unfoldable pub array_of_type : World → FieldType → Option Ty
array_of_type world t = if t.dims == 0 then None else reference_of (meaning_of world t)

-- the reference type that a text names: the class of that name, or the array type of that descriptor
unfoldable pub type_named : World → List ℕ → Option Ty
type_named world text =
    if is_class_name text then option_map class_type (class_of world text)
    else option_and_then (array_of_type world) (field_type text)
