-- What texts name is of the world.
use Rattle.std.proofs.Common.{◌≡◌, ℕ, ◌≤◌, ◌<◌, Bool, true, false, cond, eqb, List, length, Option, Some, None, refl, ap, subst, arith}
use Rattle.std.specs.Prelude.{option_and_then, option_map}
use Rattle.class_base.specs.declared.types.FieldType.{FieldType}
use Rattle.class_base.specs.ClassNames.{is_class_name}
use Rattle.class_base.specs.Types.{field_type}
use Rattle.jvm_values.specs.declared.types.Slot.TheVariants.{Num, Ref}
use Rattle.jvm_values.specs.declared.types.Ty.{Ty}
use Rattle.jvm_values.specs.Subtyping.{class_type, IsReference}
use Rattle.class_world.specs.World.{World, class_of}
use Rattle.class_world.specs.declared.meaning.Meaning.{Meaning}
use Rattle.class_world.specs.declared.meaning.Meaning.TheVariants.{Known, Unsupported, Missing}
use Rattle.class_world.specs.Descriptors.{meaning_of, known_slot}
use Rattle.class_world.specs.lemmas.Linked.{class_of_within}
use Rattle.class_world.specs.lemmas.SlotLaws.{meaning_is}
use Rattle.class_program.proofs.GoodTypes.{whole_dims}
use Rattle.input_desc.specs.TypeNames.{reference_of, array_of_type, type_named}

array_is : (world : World) (ft : FieldType) (t : Ty) → ft.dims ≤ 255 → array_of_type world ft ≡ Some t → IsReference (length world) t
unfolding array_of_type
array_is world ft t l e = go (eqb ft.dims 0) e
  where
    meant : (m : Meaning) → meaning_of world ft ≡ m → reference_of m ≡ Some t → IsReference (length world) t
    meant (Known (Ref u)) q f =
        let same : u ≡ t = cc in
        subst (λ (v : Ty). IsReference (length world) v) same (meaning_is world ft (Ref u) l (ap known_slot q))
    meant (Known (Num kind)) q f = cc
    meant Unsupported q f = cc
    meant (Missing name) q f = cc

    go : (b : Bool) → cond b None (reference_of (meaning_of world ft)) ≡ Some t → IsReference (length world) t
    go true f = cc
    go false f = meant (meaning_of world ft) refl f

-- a type that a text names is a reference type of the world
pub named_is : (world : World) (text : List ℕ) (t : Ty) → type_named world text ≡ Some t → IsReference (length world) t
unfolding type_named
named_is world text t e = go (is_class_name text) e
  where
    class : (o : Option ℕ) → class_of world text ≡ o → option_map class_type o ≡ Some t → IsReference (length world) t
    class None q f = cc
    class (Some number) q f =
        let same : class_type number ≡ t = cc in
        let within : number < length world = class_of_within world text number q in
        subst (λ (v : Ty). IsReference (length world) v) same (omega arith, within)

    array : (o : Option FieldType) → field_type text ≡ o → option_and_then (array_of_type world) o ≡ Some t → IsReference (length world) t
    array None q f = cc
    array (Some ft) q f = array_is world ft t (whole_dims text ft q) f

    go : (b : Bool) → cond b (option_map class_type (class_of world text)) (option_and_then (array_of_type world) (field_type text))
        ≡ Some t → IsReference (length world) t
    go true f = class (class_of world text) refl f
    go false f = array (field_type text) refl f
