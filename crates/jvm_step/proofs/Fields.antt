-- The fields of a class that isn't there.
use Rattle.std.proofs.Common.{◌≡◌, ℕ, zero, suc, ◌≤◌, Bool, true, false, cond, List, [], ◌∷◌, ◌++◌, length, reverse, Option, Some}
use Rattle.std.proofs.Common.{None, refl, ap, ◌∙◌}
use Rattle.std.proofs.lemmas.Option.{slice_get_past}
use Rattle.std.specs.Prelude.{slice_get, ◌==◌}
use Rattle.std.specs.Option.{option_map_or, option_and_then}
use Rattle.std.specs.List.{filter_map, flat_map}
use Rattle.jvm_values.specs.declared.types.Slot.{Slot}
use Rattle.class_program.specs.class_read.Content.{ClassContent}
use Rattle.class_program.specs.class_world.World.{World, class_of, line_from, line_of, super_of}
use Rattle.class_program.specs.class_world.Fields.{field_slot, own_slots, fields_of}

no_super_if : {X : Type 0} (zero_class : Bool) (f : X → Option ℕ) (c : Option X) → c ≡ None
    → cond zero_class None (option_and_then f c) ≡ None
no_super_if true f c e = refl
no_super_if false f c e = ap (option_and_then f) e

own_none : (world : World) (class : ℕ) → slice_get world class ≡ None → own_slots world class ≡ []
unfolding own_slots
own_none world class e = ap
    (λ (c : Option ClassContent). option_map_or (λ (x : ClassContent). filter_map (field_slot world) x.fields) c []) e

none_by : (world : World) (class n : ℕ) → super_of world class ≡ None → own_slots world class ≡ []
    → flat_map (own_slots world) (reverse (line_from (super_of world) n class)) ≡ []
none_by world class zero e f = refl
none_by world class (suc n) e f = ap
    (λ (o : Option ℕ). flat_map (own_slots world) (reverse (class ∷ option_map_or (line_from (super_of world) n) o []))) e
    ∙ ap (λ (slots : List Slot). slots ++ []) f

pub none_past : (world : World) (class : ℕ) → length world ≤ class → fields_of world class ≡ []
unfolding fields_of line_of
none_past world class l =
    let e : slice_get world class ≡ None = slice_get_past world class l in
    none_by world class (length world)
    (no_super_if (class == 0) (λ (c : ClassContent). class_of world c.super_name) (slice_get world class) e) (own_none world class e)
