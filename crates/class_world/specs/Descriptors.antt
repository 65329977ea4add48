-- What a type means in a world (JVM specification, section 4.3.2): what a slot of it holds; that it is not supported; or that its class
-- isn't there.
use Rattle.std.specs.Prelude.{ℕ, ◌==◌, if◌then◌else◌, List, Option, Some, None, option_and_then}
use Rattle.jvm_values.specs.declared.types.Kind.{Kind}
use Rattle.jvm_values.specs.declared.types.Base.TheVariants as bases
use Rattle.jvm_values.specs.declared.types.Slot.{Slot}
use Rattle.jvm_values.specs.declared.types.Slot.TheVariants.{Num, Ref}
use Rattle.jvm_values.specs.Kinds.{kind_of_letter}
use Rattle.code_forms.specs.class_base.declared.types.Element.{Element}
use Rattle.code_forms.specs.class_base.declared.types.Element.TheVariants.{Primitive, Object}
use Rattle.code_forms.specs.class_base.declared.types.FieldType.{FieldType}
use Rattle.code_forms.specs.class_base.Types.{type_at}
use Rattle.class_world.specs.declared.meaning.Meaning.{Meaning}
use Rattle.class_world.specs.declared.meaning.Meaning.TheVariants.{Known, Unsupported, Missing}
use Rattle.class_world.specs.World.{World, class_of}

-- a slot of numbers of a kind, or of references to arrays of them where there are dimensions
abbrev pub number_slot : ℕ → Kind → Slot
number_slot dims kind = if dims == 0 then Num kind else Ref (record { dims = dims; base = bases.Num kind })

-- a slot of references to objects of a class, or to arrays of it where there are dimensions
abbrev pub class_slot : ℕ → ℕ → Slot
class_slot dims class = Ref (record { dims = dims; base = bases.Class class })

-- What a primitive type under array dimensions means, by its kind of numbers: long, float and double have none and are not supported
-- (JVM specification, section 2.3).
abbrev pub primitive_meaning : ℕ → Option Kind → Meaning
primitive_meaning dims (Some kind) = Known (number_slot dims kind)
primitive_meaning dims None = Unsupported

-- What a class or interface under array dimensions means, by its number in the world: where no class of the world has the name, that
-- the class is missing.
abbrev pub object_meaning : ℕ → List ℕ → Option ℕ → Meaning
object_meaning dims name (Some class) = Known (class_slot dims class)
object_meaning dims name None = Missing name

-- What a type means in a world, by its number of array dimensions and what stands under them, which is a primitive type by its letter
-- or a class by its name (JVM specification, section 4.3.2).
abbrev pub element_meaning : World → ℕ → Element → Meaning
element_meaning world dims (Primitive b) = primitive_meaning dims (kind_of_letter b)
element_meaning world dims (Object name) = object_meaning dims name (class_of world name)

-- what the type of a field, parameter or result means in a world
abbrev pub meaning_of : World → FieldType → Meaning
meaning_of world t = element_meaning world t.dims t.element

-- what a slot holds where its type has a known meaning; nothing for types that are not supported and for missing classes
abbrev pub known_slot : Meaning → Option Slot
known_slot (Known slot) = Some slot
known_slot Unsupported = None
known_slot (Missing name) = None

-- What a slot holds whose type a field descriptor spells: nothing where the text begins with no field type, or with one that is not
-- supported or whose class is missing (JVM specification, section 4.3.2).
unfoldable pub slot_of : World → List ℕ → Option Slot
slot_of world desc = option_and_then (λ x. known_slot (meaning_of world x.0)) (type_at desc)
