-- What slots hold, and what instructions ask of their operands (JVM specification, sections 4.10.1.2 and 4.10.2.2). A world's
-- types are asked for as assignments see them.
use Rattle.std.specs.Prelude.{◌==◌, ◌&&◌, nat_lt, Bool, true, false, Option, Some, None}
use Rattle.std.specs.Option.{is_some, option_map}
use Rattle.jvm_values.specs.declared.types.Base.{Base}
use Rattle.jvm_values.specs.declared.types.Base.TheVariants as bases
use Rattle.jvm_values.specs.declared.types.Kind.{Kind}
use Rattle.jvm_values.specs.declared.types.Kind.TheVariants as kinds
use Rattle.jvm_values.specs.declared.types.Ty.{Ty}
use Rattle.jvm_values.specs.declared.types.Slot.{Slot}
use Rattle.jvm_values.specs.declared.types.Slot.TheVariants as slots
use Rattle.jvm_values.specs.declared.typing.PlaceType.{PlaceType}
use Rattle.jvm_values.specs.declared.typing.PlaceType.TheVariants as places
use Rattle.jvm_values.specs.Joins.{item_of}
use Rattle.jvm_values.specs.TypedHeaps.{WorldTypes}
use Rattle.op_forms.specs.declared.form.ItemKind.{ItemKind}
use Rattle.op_forms.specs.declared.form.ItemKind.TheVariants as items
use Rattle.code_verify.specs.declared.want.Want.{Want}
use Rattle.code_verify.specs.declared.want.Want.TheVariants as wants

-- ---- slots

-- the type of a place that holds what a field's or parameter's type says: an int, or a reference of its erased type
abbrev pub place_of : WorldTypes → Slot → PlaceType
place_of types (slots.Num kind) = places.Int
place_of types (slots.Ref t) = places.Ref (types.erase t)

-- ---- operands

-- a place holds an int
abbrev pub is_int : PlaceType → Bool
is_int places.Unset = false
is_int places.Int = true
is_int places.Null = false
is_int (places.Ref t) = false

-- a place holds null or a reference
abbrev pub is_reference : PlaceType → Bool
is_reference places.Unset = false
is_reference places.Int = false
is_reference places.Null = true
is_reference (places.Ref t) = true

-- a place holds null, or a reference of a type as assignments see it, or of one below (JVM specification 4.10.1.2)
abbrev pub is_below : WorldTypes → Ty → PlaceType → Bool
is_below types t places.Unset = false
is_below types t places.Int = false
is_below types t places.Null = true
is_below types t (places.Ref s) = types.sub s (types.erase t)

-- a place holds null or an array
abbrev pub is_array : PlaceType → Bool
is_array places.Unset = false
is_array places.Int = false
is_array places.Null = true
is_array (places.Ref t) = nat_lt 0 t.dims

-- an instruction is for arrays of a kind: baload and bastore are for those of booleans and of bytes (JVM specification
-- 6.5.baload, 6.5.bastore)
abbrev pub is_for : ItemKind → Kind → Bool
is_for items.Int kinds.Int = true
is_for items.Byte kinds.Boolean = true
is_for items.Byte kinds.Byte = true
is_for items.Char kinds.Char = true
is_for items.Short kinds.Short = true
is_for _ _ = false

-- an instruction is for arrays whose items are of a base type, which then is a kind of numbers
abbrev pub is_base_for : ItemKind → Base → Bool
is_base_for for (bases.Class class) = false
is_base_for for (bases.Num kind) = is_for for kind

-- a place holds null, or an array of numbers that an instruction is for
abbrev pub is_numbers : ItemKind → PlaceType → Bool
is_numbers for places.Unset = false
is_numbers for places.Int = false
is_numbers for places.Null = true
is_numbers for (places.Ref t) = (t.dims == 1) && is_base_for for t.base

-- a place holds null, or an array of references
abbrev pub is_references : PlaceType → Bool
is_references places.Unset = false
is_references places.Int = false
is_references places.Null = true
is_references (places.Ref t) = is_some (item_of t)

-- an operand is what an instruction asks for
abbrev pub fits : WorldTypes → Want → PlaceType → Bool
fits types wants.Int place = is_int place
fits types wants.Reference place = is_reference place
fits types (wants.Below t) place = is_below types t place
fits types (wants.BelowBoth s t) place = is_below types s place && is_below types t place
fits types wants.Array place = is_array place
fits types (wants.Numbers for) place = is_numbers for place
fits types wants.References place = is_references place

-- what is asked of an operand that is passed or stored where a type is taken
abbrev pub want_of : Slot → Want
want_of (slots.Num kind) = wants.Int
want_of (slots.Ref t) = wants.Below t

-- what an array of references gives when an item is loaded: its items' type, and null gives null (JVM specification
-- 4.10.1.9, aaload)
abbrev pub item_place : PlaceType → Option PlaceType
item_place places.Unset = None
item_place places.Int = None
item_place places.Null = Some places.Null
item_place (places.Ref t) = option_map places.Ref (item_of t)
