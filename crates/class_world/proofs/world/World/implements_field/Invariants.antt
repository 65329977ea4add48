use Rattle.std.proofs.Common.{◌≡◌, drop}
use Rattle.std.specs.List.{list_any}
use Rattle.class_world.specs.Hidden.{has_field_above}
use Rattle.class_world.proofs.world.World.implements_field.Given as goal

abbrev pub invariant-loop-interface : goal.invariant-loop-interface
invariant-loop-interface l = list_any (has_field_above l.self.roster.classes l.name l.desc)
    (drop l.interface-index l.interface-items) ≡ list_any (has_field_above l.self.roster.classes l.name l.desc) l.interface-items
