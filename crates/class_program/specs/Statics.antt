-- The static fields of a program: those that its methods' instructions name (JVM specification, section 5.4.3.2).
use Rattle.std.specs.Prelude.{◌≡◌, ℕ, ◌==◌, ◌&&◌, nat_lt, Bool, if◌then◌else◌, List, [], ◌∷◌, ◌++◌, length, slice_get, Option, Some}
use Rattle.std.specs.Prelude.{None, option_and_then, Ok, Err}
use Rattle.std.specs.List.{list_any, filter_map, flat_map, range_with_len, position_or_len}
use Rattle.std.specs.Option.{option_map, option_map_or}
use Rattle.class_world.specs.class_read.Content.{FieldContent}
use Rattle.class_world.specs.declared.fault.LinkFault.TheVariants.{TooManyStatics}
use Rattle.class_world.specs.World.{World}
use Rattle.class_world.specs.Descriptors.{slot_of}
use Rattle.class_world.specs.Resolve.{field_at, is_static_field}
use Rattle.class_program.specs.declared.op.Op.{Op}
use Rattle.class_program.specs.declared.op.Op.TheVariants.{Getstatic, Putstatic}
use Rattle.class_program.specs.declared.op.FieldRef.{FieldRef}
use Rattle.class_program.specs.declared.op.StaticUse.{StaticUse}
use Rattle.class_program.specs.declared.program.Method.{Method}
use Rattle.class_program.specs.declared.program.StaticField.{StaticField}
use Rattle.class_program.specs.Said.{Said}

-- how many fields a class declares; none past the last class
abbrev pub field_count : World → ℕ → ℕ
field_count world class = option_map_or (λ c. length c.fields) (slice_get world class) 0

-- ---- lists of fields

-- two references stand for one field: they have one class and one place in its file
abbrev pub same_field : FieldRef → FieldRef → Bool
same_field a b = (a.class == b.class) && (a.index == b.index)

-- a field is one of a list
abbrev pub has_field : List FieldRef → FieldRef → Bool
has_field fields field = list_any (same_field field) fields

-- a list with a field put behind it, unless it stands there
abbrev pub with_field : List FieldRef → FieldRef → List FieldRef
with_field fields field = if has_field fields field then fields else fields ++ field ∷ []

-- two lists have the same fields, in whatever order and as often as they are there
abbrev pub SameFields : List FieldRef → List FieldRef → Type 0
SameFields xs ys = (field : FieldRef) → has_field xs field ≡ has_field ys field

-- ---- what instructions name

-- the static field that an instruction names
abbrev pub field_named : Op → Option FieldRef
field_named (Getstatic used) = Some used.field
field_named (Putstatic used) = Some used.field
field_named _ = None

-- the static fields that the instructions of a method name, in their order and as often as they name them
abbrev pub fields_in : List (ℕ × Op) → List FieldRef
fields_in insns = filter_map (λ x. field_named x.1) insns

-- the static fields that the instructions of methods name, as often as they name them
unfoldable pub fields_named : List Method → List FieldRef
fields_named methods = flat_map (λ m. fields_in m.insns) methods

-- ---- the static fields of a program

-- a static field of a program as a reference: its class and its place in the class's file
abbrev pub static_ref : StaticField → FieldRef
static_ref s = record { class = s.class; index = s.index }

-- a declared field with what it holds, where its type is supported and there
abbrev pub static_field : World → FieldRef → FieldContent → Option StaticField
static_field world field f = option_map
    (λ slot. record { class = field.class; index = field.index; name = f.name; desc = f.desc; slot = slot }) (slot_of world f.desc)

-- the field at a place of a class's file, where it is static and one of the named ones
unfoldable pub static_at : World → List FieldRef → ℕ → ℕ → Option StaticField
static_at world named class i =
    if is_static_field world class i && has_field named (record { class = class; index = i })
    then option_and_then (static_field world (record { class = class; index = i })) (field_at world class i)
    else None

-- the static fields of a class that are among the named ones, in the order of the class file
unfoldable pub statics_in : World → List FieldRef → ℕ → List StaticField
statics_in world named class = filter_map (static_at world named class) (range_with_len 0 (field_count world class))

-- the static fields of a world that are among the named ones, each once: class by class, and in a class in the order of its file
unfoldable pub statics_of : World → List FieldRef → List StaticField
statics_of world named = flat_map (statics_in world named) (range_with_len 0 (length world))

-- the static fields of a program, which has at most 256
abbrev pub few_statics : List StaticField → Said (List StaticField)
few_statics statics = if nat_lt 256 (length statics) then Err TooManyStatics else Ok statics

-- the static fields that the instructions of methods name
unfoldable pub statics_named : World → List Method → Said (List StaticField)
statics_named world methods = few_statics (statics_of world (fields_named methods))

-- ---- their places

-- a static field of a program is the one that a reference stands for
abbrev pub is_field : FieldRef → StaticField → Bool
is_field field s = same_field field (static_ref s)

-- how many of the static fields stand before a field
abbrev pub static_place : List StaticField → FieldRef → ℕ
static_place statics field = position_or_len (is_field field) statics

-- a named static field with its place among those of the program
abbrev pub placed_use : List StaticField → StaticUse → StaticUse
placed_use statics used = record { field = used.field; place = static_place statics used.field }
