-- Resolution: which member an instruction's class, name and descriptor stand for (JVM specification, sections 5.4.3.2
-- to 5.4.3.4), and the place of a field in objects.
--
-- Members are sought class by class; the first class that declares one of that name and descriptor decides.
use Rattle.std.specs.Prelude.{ℕ, zero, suc, ◌+◌, ◌&&◌, not, Bool, true, false, if◌then◌else◌, List, [], ◌∷◌, ◌++◌, length, take}
use Rattle.std.specs.Prelude.{drop, slice_get, position, Option, Some, None, option_and_then}
use Rattle.std.specs.List.{find, filter_map, flat_map, list_any}
use Rattle.std.specs.Option.{option_map, option_map_or, option_or}
use Rattle.std.specs.Str.{bytes_eq}
use Rattle.jvm_values.specs.declared.types.Slot.{Slot}
use Rattle.class_read.specs.Content.{FieldContent, MethodContent}
use Rattle.class_world.specs.declared.world.MethodRef.{MethodRef}
use Rattle.class_world.specs.World.{World, interfaces_of, line_of, is_interface_class, is_static, is_abstract}
use Rattle.class_world.specs.Fields.{field_slot, own_slots}
use Rattle.class_world.specs.Members.{declared_method, initialiser_name}

-- ---- the first class that has what is sought

-- the first of these classes in which something is found at a place, and that place
abbrev pub first_found : (ℕ → Option ℕ) → List ℕ → Option (ℕ × ℕ)
first_found place [] = None
first_found place (class ∷ more) = option_or (option_map (λ i. (class, i)) (place class)) (first_found place more)

-- ---- fields

-- a field has this name and this descriptor
abbrev pub is_field_named : List ℕ → List ℕ → FieldContent → Bool
is_field_named name desc f = bytes_eq name f.name && bytes_eq desc f.desc

-- the place in its file of the field that a class declares with that name and descriptor
unfoldable pub declared_field : World → ℕ → List ℕ → List ℕ → Option ℕ
declared_field world class name desc = option_and_then (λ c. position (is_field_named name desc) c.fields) (slice_get world class)

-- the field at a place of a class's file
abbrev pub field_at : World → ℕ → ℕ → Option FieldContent
field_at world class i = option_and_then (λ c. slice_get c.fields i) (slice_get world class)

-- the field at a place of a class's file is static; false where there is no such field
abbrev pub is_static_field : World → ℕ → ℕ → Bool
is_static_field world class i = option_map_or (λ f. is_static f.flags) (field_at world class i) false

-- the place of the field that look-up finds in a class: the static fields of an interface are not found
unfoldable pub found_field : World → ℕ → List ℕ → List ℕ → Option ℕ
found_field world class name desc =
    option_and_then (λ i. if is_interface_class world class && is_static_field world class i then None else Some i)
    (declared_field world class name desc)

-- Field look-up along the superclass chain of the named class, for static fields as for those of objects: the class that
-- declares the field, and the field's place in that class's file. Superinterfaces are not looked at.
unfoldable pub resolve_field : World → ℕ → List ℕ → List ℕ → Option (ℕ × ℕ)
resolve_field world class name desc = first_found (λ c. found_field world c name desc) (line_of world class)

-- what the superclasses of a class add to its objects; it stands before what the class itself adds
unfoldable pub slots_above : World → ℕ → List Slot
slots_above world class = flat_map (own_slots world) (drop 1 (line_of world class))

-- what the fields that a class declares before one of its fields add to objects
unfoldable pub own_slots_before : World → ℕ → ℕ → List Slot
own_slots_before world class i = option_map_or (λ c. filter_map (field_slot world) (take i c.fields)) (slice_get world class) []

-- The place of a field among the fields of objects, `fields_of`, and what it holds there: the superclasses' fields stand before it,
-- and the earlier ones of its class. It is one place in the objects of all classes below. A field that is no part of objects has none.
unfoldable pub field_place : World → ℕ → ℕ → Option (ℕ × Slot)
field_place world class i =
    option_map (λ slot. (length (slots_above world class) + length (own_slots_before world class i), slot))
    (option_and_then (field_slot world) (field_at world class i))

-- ---- methods

-- a class or interface and then, in turn, each of its own superinterfaces in the same way, up to so many steps up
abbrev pub with_interfaces : (ℕ → List ℕ) → ℕ → ℕ → List ℕ
with_interfaces up zero interface = []
with_interfaces up (suc most) interface = interface ∷ flat_map (with_interfaces up most) (up interface)

-- The superinterfaces of a class in the order in which they are sought: from the class up its superclass chain, each
-- class's interfaces in order, an interface before its own superinterfaces. In a world without cycles no way up has more
-- steps than there are classes.
unfoldable pub superinterfaces_of : World → ℕ → List ℕ
superinterfaces_of world class =
    flat_map (with_interfaces (interfaces_of world) (length world)) (flat_map (interfaces_of world) (line_of world class))

-- a method that look-up found, by the number of its class and its place in that class's file
abbrev pub method_ref : ℕ × ℕ → MethodRef
method_ref found = record { class = found.0; index = found.1 }

-- Method look-up from the named class or interface: along its superclass chain, then in its superinterfaces (JVM specification,
-- sections 5.4.3.3 and 5.4.3.4).
unfoldable pub resolve_method : World → ℕ → List ℕ → List ℕ → Option MethodRef
resolve_method world class name desc =
    option_map method_ref (first_found (λ c. declared_method world c name desc) (line_of world class ++ superinterfaces_of world class))

-- the method that a reference to one stands for; none where its class or its place isn't there
unfoldable pub method_at : World → MethodRef → Option MethodContent
method_at world ref = option_and_then (λ c. slice_get c.methods ref.index) (slice_get world ref.class)

-- ---- static initialisers

-- a method is a static initialiser, which its name alone tells (JVM specification, section 2.9)
abbrev pub is_initialiser : MethodContent → Bool
is_initialiser m = bytes_eq m.name initialiser_name

-- a class declares a static initialiser, a method `<clinit>`
unfoldable pub is_initialised : World → ℕ → Bool
is_initialised world class = option_map_or (λ c. list_any is_initialiser c.methods) (slice_get world class) false

-- The name of the first class with a static initialiser, from the class up its superclass chain: initialising the class would run it
-- (JVM specification, section 5.5).
unfoldable pub first_static_init : World → ℕ → Option (List ℕ)
first_static_init world class =
    option_and_then (λ c. option_map (λ x. x.name) (slice_get world c)) (find (is_initialised world) (line_of world class))

-- a method is abstract, so that there is no code to run; a method that isn't there has no code either
abbrev pub has_no_body : World → MethodRef → Bool
has_no_body world ref = option_map_or (λ m. is_abstract m.flags) (method_at world ref) true

-- a method of the world has code to run: it isn't abstract
abbrev pub has_body : World → MethodRef → Bool
has_body world ref = not (has_no_body world ref)
