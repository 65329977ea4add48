-- Reference types, and what every world's subtype relation and erasure obey.
--
-- A world has so many classes, numbered from 0; class 0 is `java/lang/Object`.
use Rattle.std.specs.Prelude.{◌≡◌, ℕ, ◌+◌, ◌<◌, ◌≤◌, ◌⊎◌, Bool, List, All, IsTrue}
use Rattle.jvm_values.specs.declared.types.Kind.{Kind}
use Rattle.jvm_values.specs.declared.types.Ty.{Ty}
use Rattle.jvm_values.specs.declared.types.Base.{Base}
use Rattle.jvm_values.specs.declared.types.Base.TheVariants.{Class, Num}
use Rattle.jvm_values.specs.declared.types.Slot.{Slot}
use Rattle.jvm_values.specs.declared.types.Slot.TheVariants as slots

-- a class as a type
abbrev pub class_type : ℕ → Ty
class_type class = record { dims = 0; base = Class class }

-- the type that every reference type is below
abbrev pub object_type : Ty
object_type = class_type 0

-- arrays whose items are numbers of one kind
abbrev pub array_of_numbers : Kind → Ty
array_of_numbers kind = record { dims = 1; base = Num kind }

-- arrays whose items are of a type
abbrev pub array_of : Ty → Ty
array_of t = record { dims = t.dims + 1; base = t.base }

-- the base of a reference type of so many array dimensions: a class of the world, or numbers of a kind, over which
-- there is at least one dimension
abbrev pub IsReferenceBase : ℕ → ℕ → Base → Type 0
IsReferenceBase classes dims (Class class) = class < classes
IsReferenceBase classes dims (Num kind) = 0 < dims

-- a reference type of a world of so many classes: a class of it, or an array of at most 255 dimensions (JVM
-- specification, sections 2.4 and 4.3.2)
abbrev pub IsReference : ℕ → Ty → Type 0
IsReference classes t = (t.dims ≤ 255) × IsReferenceBase classes t.dims t.base

-- what a field holds is a number, or a reference type of the world
abbrev pub IsSlot : ℕ → Slot → Type 0
IsSlot classes (slots.Num kind) = Unit {0}
IsSlot classes (slots.Ref t) = IsReference classes t

-- a type stands for itself in assignments: it is no interface, and no array whose items are interfaces
abbrev pub IsErased : (Ty → Ty) → Ty → Type 0
IsErased erase t = erase t ≡ t

-- `b` is an array of references whose items' type is one that `a` is below
abbrev pub IsArrayAbove : (Ty → Ty → Bool) → ℕ → Ty → Ty → Type 0
IsArrayAbove sub classes a b = (item : Ty) × IsReference classes item × IsTrue (sub a item) × (b ≡ array_of item)

-- The laws of a subtype relation `sub` and an erasure `erase` over so many classes, whose instance fields are `fields`
-- (JVM specification, sections 2.4, 4.10.1.2 and, for arrays, 6.5 aastore and checkcast).
pub record SubtypeLaws (sub : Ty → Ty → Bool) (erase : Ty → Ty) (classes : ℕ) (fields : ℕ → List Slot) (can_be_made : ℕ
    → Bool) : Type 0 where
  -- only reference types of the world stand in the relation
  pub of_world : (a b : Ty) → IsTrue (sub a b) → IsReference classes a × IsReference classes b
  pub reflexive : (a : Ty) → IsReference classes a → IsTrue (sub a a)
  pub transitive : (a b c : Ty) → IsTrue (sub a b) → IsTrue (sub b c) → IsTrue (sub a c)
  pub antisymmetric : (a b : Ty) → IsTrue (sub a b) → IsTrue (sub b a) → a ≡ b
  -- every reference type is below Object
  pub object_on_top : (a : Ty) → IsReference classes a → IsTrue (sub a object_type)
  -- erasure goes up, and what it gives is erased
  pub erase_up : (a : Ty) → IsReference classes a → IsTrue (sub a (erase a))
  pub erase_erased : (a : Ty) → IsReference classes a → IsErased erase (erase a)
  pub erase_outside : (a : Ty) → a.dims ≤ 255 → (IsReference classes a → ⊥) → erase a ≡ a
  -- erasure works under array dimensions, and leaves arrays of numbers alone
  pub erase_array : (a : Ty) → IsReference classes a → IsReference classes (array_of a) → erase (array_of a) ≡ array_of (erase a)
  pub erase_numbers : (kind : Kind) → IsErased erase (array_of_numbers kind)
  -- an array of references is below exactly Object and the arrays of what its items are below
  pub array_below : (a b : Ty) → IsReference classes a → IsTrue (sub (array_of a) b) → (b ≡ object_type) ⊎ IsArrayAbove sub classes a b
  pub below_array : (a b : Ty) → IsReference classes (array_of a) → IsReference classes (array_of b) → IsTrue (sub a b)
      → IsTrue (sub (array_of a) (array_of b))
  -- an array of numbers is below exactly itself and Object
  pub numbers_below : (kind : Kind) (b : Ty) → IsTrue (sub (array_of_numbers kind) b) → (b ≡ object_type) ⊎ (b ≡ array_of_numbers kind)
  -- a class is below no array
  pub class_below : (class : ℕ) (b : Ty) → IsTrue (sub (class_type class) b) → b.dims ≡ 0
  -- the erased types above one type form a chain
  pub chain : (t a b : Ty) → IsTrue (sub t a) → IsTrue (sub t b) → IsErased erase a → IsErased erase b
      → IsTrue (sub a b) ⊎ IsTrue (sub b a)
  -- a class that can be made stands for itself in assignments
  pub made_is_erased : (class : ℕ) → class < classes → IsTrue (can_be_made class) → IsErased erase (class_type class)
  -- fields hold numbers and reference types of the world
  pub slots_of_world : (class : ℕ) → class < classes → All (IsSlot classes) (fields class)
