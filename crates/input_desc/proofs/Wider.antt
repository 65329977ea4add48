-- Types in assignments: a wider type, and erasure.
use Rattle.std.proofs.Common.{◌≡◌, ℕ, Bool, true, false, cond, length, refl, ap}
use Rattle.jvm_values.specs.declared.types.Base.{Base}
use Rattle.jvm_values.specs.declared.types.Base.TheVariants as bases
use Rattle.jvm_values.specs.declared.types.Ty.{Ty}
use Rattle.jvm_values.specs.declared.heap.Value.{Value}
use Rattle.jvm_values.specs.declared.heap.Value.TheVariants as values
use Rattle.jvm_values.specs.declared.heap.Heap.{Heap}
use Rattle.jvm_values.specs.Subtyping.{SubtypeLaws}
use Rattle.jvm_values.specs.TypedHeaps.{type_of, HasType}
use Rattle.class_world.specs.World.{World, is_interface_class}
use Rattle.class_world.specs.WorldTypes.{types_of}
use Rattle.class_world.specs.Types.{is_sub, erase, erase_by, erased_base}
use Rattle.class_world.specs.Fields.{fields_of, can_be_made}

-- the laws of a world's types
abbrev pub Laws : World → Type 0
Laws world = SubtypeLaws (is_sub world) (erase world) (length world) (fields_of world) (can_be_made world)

pub has_wider : (world : World) (heap : Heap) (value : Value) (a b : Ty) → Laws world → HasType (types_of world) heap value a
    → is_sub world a b ≡ true → HasType (types_of world) heap value b
has_wider world heap (values.Int n) a b laws h e = absurd h
has_wider world heap values.Null a b laws h e = tt
has_wider world heap (values.Ref r) a b laws h e = (h.0, (h.1.0, laws.transitive (type_of h.0) a b h.1.1 e))

-- an erased type is its own erasure
pub erased_twice : (world : World) (t : Ty) → erase world (erase world t) ≡ erase world t
unfolding erase_by
erased_twice world t = ap (λ (b : Base). record { dims = t.dims; base = b }) (base t.base)
  where
    class : (c : ℕ) (b : Bool) → is_interface_class world c ≡ b
        → erased_base (is_interface_class world) (cond b (bases.Class 0) (bases.Class c)) ≡ cond b (bases.Class 0) (bases.Class c)
    class c true q = zeroth (is_interface_class world 0)
      where
        zeroth : (b : Bool) → cond b (bases.Class 0) (bases.Class 0) ≡ bases.Class 0
        zeroth true = refl
        zeroth false = refl
    class c false q = ap (λ b. cond b (bases.Class 0) (bases.Class c)) q

    base : (b : Base) → erased_base (is_interface_class world) (erased_base (is_interface_class world) b) ≡ erased_base
        (is_interface_class world) b
    base (bases.Class c) = class c (is_interface_class world c) refl
    base (bases.Num kind) = refl
