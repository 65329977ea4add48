-- Types over a world: which are below which, and what assignments see of them.
use Rattle.std.specs.Prelude.{ℕ, ◌==◌, ◌||◌, ◌&&◌, ◌<◌, Bool, true, false, if◌then◌else◌, length, nat_le, nat_lt, nat_eq, IsTrue}
use Rattle.std.specs.List.{list_any}
use Rattle.jvm_values.specs.declared.types.Ty.{Ty}
use Rattle.jvm_values.specs.declared.types.Kind.{Kind}
use Rattle.jvm_values.specs.declared.types.Kind.TheVariants.{Boolean, Char, Byte, Short, Int}
use Rattle.jvm_values.specs.declared.types.Base.{Base}
use Rattle.jvm_values.specs.declared.types.Base.TheVariants.{Class, Num}
use Rattle.jvm_values.specs.Subtyping.{class_type, object_type, array_of, IsReference}
use Rattle.class_world.specs.World.{World, supers_of, is_above, is_interface_class}

-- ---- the relation

-- class `a` directly extends or implements class `b`
abbrev pub Extends : World → ℕ → ℕ → Type 0
Extends world a b = IsTrue (list_any (nat_eq b) (supers_of world a))

-- The least relation on the reference types of a world that has each type below itself, each class below what it
-- directly extends or implements, arrays below arrays as their items are, each type below Object, and all that follows
-- (JVM specification, sections 2.4 and 4.10.1.2).
pub data Sub (world : World) : Ty → Ty → Type 0 where
  same : (t : Ty) → IsReference (length world) t → Sub world t t
  follows : (a b c : Ty) → Sub world a b → Sub world b c → Sub world a c
  up : (a b : ℕ) → a < length world → Extends world a b → Sub world (class_type a) (class_type b)
  items : (a b : Ty) → IsReference (length world) (array_of a) → IsReference (length world) (array_of b) → Sub world a b
      → Sub world (array_of a) (array_of b)
  top : (t : Ty) → IsReference (length world) t → Sub world t object_type

-- ---- the test

-- What stands under so many array dimensions makes a reference type: a class of a world of so many classes, or, under at least one
-- dimension, a kind of numbers (JVM specification, section 2.4).
abbrev pub is_reference_base : ℕ → ℕ → Base → Bool
is_reference_base classes dims (Class class) = nat_lt class classes
is_reference_base classes dims (Num kind) = nat_lt 0 dims

-- The type is a reference type of a world of so many classes: one of its classes, or an array of at most 255 dimensions of classes or
-- numbers (JVM specification, sections 2.4 and 4.3.2).
abbrev pub is_reference : ℕ → Ty → Bool
is_reference classes t = nat_le t.dims 255 && is_reference_base classes t.dims t.base

-- two kinds of numbers are one and the same kind
abbrev pub is_same_kind : Kind → Kind → Bool
is_same_kind Boolean Boolean = true
is_same_kind Char Char = true
is_same_kind Byte Byte = true
is_same_kind Short Short = true
is_same_kind Int Int = true
is_same_kind _ _ = false

-- What stands under equally many dimensions decides which of two types is below the other: of classes the order of classes does, of
-- kinds of numbers each is below itself alone, and a class and a kind of numbers have no order (JVM specification, section 4.10.1.2).
abbrev pub is_base_below : (ℕ → ℕ → Bool) → Base → Base → Bool
is_base_below below (Class a) (Class b) = below a b
is_base_below below (Num j) (Num k) = is_same_kind j k
is_base_below below (Class a) (Num k) = false
is_base_below below (Num j) (Class b) = false

-- what stands under the array dimensions of a type is the class Object, which has the number 0
abbrev pub is_object : Base → Bool
is_object (Class class) = class == 0
is_object (Num kind) = false

-- Type `a` is `b` or below it, where `below` is the order of the classes: under equally many dimensions what stands
-- there decides; an array of more dimensions is below Object and its arrays.
unfoldable pub is_sub_by : ℕ → (ℕ → ℕ → Bool) → Ty → Ty → Bool
is_sub_by classes below a b =
    is_reference classes a && is_reference classes b
    && (if a.dims == b.dims then is_base_below below a.base b.base else nat_lt b.dims a.dims && is_object b.base)

-- in a world class `a` is class `b` or below it: each class is below itself, below what is above it, and below Object
unfoldable pub is_class_below : World → ℕ → ℕ → Bool
is_class_below world a b = (b == 0) || (a == b) || is_above world a b

-- the test of subtypes in a world: type `a` is type `b` or below it, as `Sub` has it
abbrev pub is_sub : World → Ty → Ty → Bool
is_sub world = is_sub_by (length world) (is_class_below world)

-- ---- erasure

-- what assignments see of a class or a kind of numbers: Object in place of an interface, everything else as itself
abbrev pub erased_base : (ℕ → Bool) → Base → Base
erased_base interface (Class class) = if interface class then Class 0 else Class class
erased_base interface (Num kind) = Num kind

-- A type as assignments see it: an interface stands for Object, under array dimensions too, since a verifier treats interfaces like
-- Object (JVM specification, section 4.10.1.2).
unfoldable pub erase_by : (ℕ → Bool) → Ty → Ty
erase_by interface t = record { dims = t.dims; base = erased_base interface t.base }

-- erasure in a world: a type with Object in place of an interface
abbrev pub erase : World → Ty → Ty
erase world = erase_by (is_interface_class world)
