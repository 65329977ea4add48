-- Heaps whose objects hold no references: each region has one object, and is of every shape.
use Rattle.std.proofs.Common.{◌≡◌, ◌∙◌, ◌+◌, ◌≤◌, ℕ, zero, suc, List, [], ◌∷◌, length, map, Some, None, slice_get}
use Rattle.std.proofs.Common.{refl, sym, ap, arith}
use Rattle.std.specs.List.{AllByRecursion}
use Rattle.std.specs.Option.{option_and_then}
use Rattle.std.proofs.lemmas.List.Elements.{All-nil}
use Rattle.jvm_values.specs.declared.heap.Heap.{Heap}
use Rattle.jvm_values.specs.declared.heap.Object.{Object}
use Rattle.jvm_values.specs.declared.heap.Object.TheVariants.{Instance, Nums, Refs}
use Rattle.jvm_values.specs.declared.heap.Value.{Value}
use Rattle.jvm_values.specs.declared.shape.Shape.{Shape}
use Rattle.jvm_values.specs.declared.shape.Shape.TheVariants.{Tree, Dag, Any}
use Rattle.jvm_values.specs.declared.types.Base.{Base}
use Rattle.jvm_values.specs.declared.types.Base.TheVariants.{Class, Num}
use Rattle.jvm_values.specs.declared.types.Slot.{Slot}
use Rattle.jvm_values.specs.declared.types.Slot.TheVariants as slots
use Rattle.jvm_values.specs.Heaps.{target, values_of, heap_steps, Region, HasShape}
use Rattle.jvm_values.specs.Kinds.{IsOfKind}
use Rattle.jvm_values.specs.Paths.{follow}
use Rattle.jvm_values.specs.Slots.{initial_value}
use Rattle.jvm_values.specs.Subtyping.{IsReferenceBase}
use Rattle.jvm_values.specs.TypedHeaps.{type_of, IsTypedObject}
use Rattle.jvm_values.proofs.Options.{some_is}
use Rattle.jvm_run.proofs.Objects.{defaults_held}
use Rattle.class_world.specs.Fields.{fields_of}
use Rattle.class_world.specs.World.{World}
use Rattle.class_world.specs.WorldTypes.{types_of}
use Rattle.desc_steps.specs.Givable.{IsMade}

-- ---- new objects

-- an object as it begins, of exactly this type: its fields hold 0 and null, or the array has no items
abbrev pub new_of : World → ℕ → Base → Object
new_of world zero (Class class) = Instance class (map initial_value (fields_of world class))
new_of world zero (Num kind) = Nums kind []
new_of world (suc dims) (Class class) = Refs (record { dims = dims; base = Class class }) []
new_of world (suc zero) (Num kind) = Nums kind []
new_of world (suc (suc dims)) (Num kind) = Refs (record { dims = suc dims; base = Num kind }) []

pub new_type : (world : World) (dims : ℕ) (base : Base) → IsReferenceBase (length world) dims base
    → type_of (new_of world dims base) ≡ record { dims = dims; base = base }
new_type world zero (Class class) is = refl
new_type world zero (Num kind) is = absurd (omega (arith, is))
new_type world (suc dims) (Class class) is = let next : dims + 1 ≡ suc dims = omega arith in ap
    (λ (n : ℕ). record { dims = n; base = Class class }) next
new_type world (suc zero) (Num kind) is = refl
new_type world (suc (suc dims)) (Num kind) is = let next : suc dims + 1 ≡ suc (suc dims) = omega arith in ap
    (λ (n : ℕ). record { dims = n; base = Num kind }) next

pub new_typed : (world : World) (heap : Heap) (dims : ℕ) (base : Base) → dims ≤ 255 → IsReferenceBase (length world) dims base
    → (dims ≡ 0 → IsMade world base) → IsTypedObject (types_of world) heap (new_of world dims base)
new_typed world heap zero (Class class) few is made = (is, (made refl, defaults_held (types_of world) heap (fields_of world class)))
new_typed world heap zero (Num kind) few is made = absurd (omega (arith, is))
new_typed world heap (suc dims) (Class class) few is made = (omega arith, (omega (arith, few), ((omega (arith, few), is), All-nil _)))
new_typed world heap (suc zero) (Num kind) few is made = (omega arith, All-nil (IsOfKind kind))
new_typed world heap (suc (suc dims)) (Num kind) few is made =
    (omega arith, (omega (arith, few), ((omega (arith, few), omega arith), All-nil _)))

-- ---- what they hold

-- it holds no reference
abbrev pub IsBare : Object → Type 0
IsBare object = (i : ℕ) → option_and_then target (slice_get (values_of object) i) ≡ None

initials_bare : (fields : List Slot) (i : ℕ) → option_and_then target (slice_get (map initial_value fields) i) ≡ None
initials_bare [] i = refl
initials_bare (slots.Num kind ∷ fields) zero = refl
initials_bare (slots.Ref t ∷ fields) zero = refl
initials_bare (slot ∷ fields) (suc i) = initials_bare fields i

pub new_bare : (world : World) (dims : ℕ) (base : Base) → IsBare (new_of world dims base)
new_bare world zero (Class class) = initials_bare (fields_of world class)
new_bare world zero (Num kind) = λ i. refl
new_bare world (suc dims) (Class class) = λ i. refl
new_bare world (suc zero) (Num kind) = λ i. refl
new_bare world (suc (suc dims)) (Num kind) = λ i. refl

-- ---- heaps of such objects

abbrev pub heap_of : List Object → Heap
heap_of objects = record { objects = objects }

module _ (objects : List Object) (bare : AllByRecursion IsBare objects) where
  no_steps : (a i : ℕ) → heap_steps (heap_of objects) a i ≡ None
  no_steps = go objects bare
    where
      go : (some : List Object) → AllByRecursion IsBare some → (a i : ℕ) → heap_steps (heap_of some) a i ≡ None
      go [] each a i = refl
      go (object ∷ more) each zero i = each.0 i
      go (object ∷ more) each (suc a) i = go more each.1 a i

  -- a path ends where it starts, and has no steps
  only_start : (path : List ℕ) (a b : ℕ) → follow (heap_steps (heap_of objects)) path a ≡ Some b → (path ≡ []) × (a ≡ b)
  only_start [] a b e = (refl, some_is e)
  only_start (i ∷ path) a b e =
      let none : follow (heap_steps (heap_of objects)) (i ∷ path) a ≡ None =
      ap (option_and_then (follow (heap_steps (heap_of objects)) path)) (no_steps a i) in
      let bad : None ≡ Some b = sym none ∙ e in absurd (cc)

  pub region_is : (value : Value) (b : ℕ) → Region (heap_of objects) value b → target value ≡ Some b
  region_is value b in_region =
      let reach = in_region.reaches in
      in_region.names ∙ ap Some (only_start reach.path in_region.start b reach.leads).1

  pub every_shape : (shape : Shape) (value : Value) → HasShape shape (heap_of objects) value
  every_shape Tree value = λ a names p q b e f. (only_start p a b e).0 ∙ sym (only_start q a b f).0
  every_shape Dag value = λ a names p b e q f. (only_start q b b f).0
  every_shape Any value = tt
