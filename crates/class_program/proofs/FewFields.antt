-- A class of a world has few fields.
use Rattle.std.proofs.Common.{◌≡◌, ℕ, zero, suc, ◌<◌, ◌≤◌, true, [], ◌∷◌, length, Option, Some, ap, sym, subst}
use Rattle.std.specs.Prelude.{slice_get}
use Rattle.std.specs.List.{list_all}
use Rattle.std.specs.Option.{option_map_or}
use Rattle.std.proofs.lemmas.Bool.{and_parts, ltb-true}
use Rattle.std.proofs.lemmas.Option.{slice_get_past}
use Rattle.class_world.proofs.Indexes.{few_fields}
use Rattle.class_world.specs.class_read.Content.{ClassContent}
use Rattle.class_world.specs.World.{World}
use Rattle.class_world.specs.Linking.{has_few_members}
use Rattle.class_program.specs.Statics.{field_count}

pub few_there : (world : World) (class n : ℕ) (c : ClassContent) → list_all has_few_members world ≡ true
    → slice_get world class ≡ Some c → n ≡ length c.fields → n < 65536
few_there world class n c e s l = subst (λ (k : ℕ). k < 65536) (sym l) (few_fields world class c e s)

pub count_past : (world : World) (class : ℕ) → length world ≤ class → field_count world class ≡ 0
count_past world class l = ap (λ (o : Option ClassContent). option_map_or (λ x. length x.fields) o 0) (slice_get_past world class l)
