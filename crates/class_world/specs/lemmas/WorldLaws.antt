-- The laws of types, of a linked world.
use Rattle.std.proofs.Common.{◌≡◌, ℕ, Bool, true, false, not, ◌&&◌, length, Option, Some, None, refl}
use Rattle.std.specs.Prelude.{slice_get}
use Rattle.std.specs.Option.{option_map_or}
use Rattle.std.proofs.lemmas.Bool.{false≢true, and_parts}
use Rattle.class_read.specs.Content.{ClassContent}
use Rattle.jvm_values.specs.Subtyping.{SubtypeLaws}
use Rattle.class_world.specs.World.{World, is_abstract, is_interface, is_interface_class}
use Rattle.class_world.specs.Types.{is_sub, erase, is_class_below}
use Rattle.class_world.specs.Linking.{is_linked}
use Rattle.class_world.specs.Fields.{fields_of, can_be_made}
use Rattle.class_world.specs.lemmas.Subtypes.{laws_of}
use Rattle.class_world.specs.lemmas.Linked.{class_order}
use Rattle.class_world.specs.lemmas.SlotLaws.{fields_are}

-- what can be made is no interface
pub made_no_interface : (world : World) (class : ℕ) → can_be_made world class ≡ true → is_interface_class world class ≡ false
unfolding can_be_made is_interface_class
made_no_interface world class e = go (slice_get world class) e
  where
    no : (b : Bool) → not b ≡ true → b ≡ false
    no true f = absurd (false≢true f)
    no false f = refl

    go : (o : Option ClassContent) → option_map_or (λ c. not (is_abstract c.flags) && not (is_interface c.flags)) o false ≡ true
        → option_map_or (λ c. is_interface c.flags) o false ≡ false
    go None f = absurd (false≢true f)
    go (Some c) f = no (is_interface c.flags) (and_parts (not (is_abstract c.flags)) (not (is_interface c.flags)) f).1

pub world_laws : (world : World) → is_linked world ≡ true
    → SubtypeLaws (is_sub world) (erase world) (length world) (fields_of world) (can_be_made world)
world_laws world linked =
    laws_of (length world) (is_class_below world) (is_interface_class world) (class_order world linked)
    (fields_of world) (λ class l. fields_are world class)
    (can_be_made world) (λ class l made. made_no_interface world class made)
