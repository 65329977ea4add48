use Rattle.std.proofs.Common.{◌≡◌, ◌++◌, drop}
use Rattle.std.specs.List.{filter_map}
use Rattle.class_read.specs.View.{field_content}
use Rattle.class_world.specs.Fields.{field_slot}
use Rattle.class_world.proofs.roster.Roster.slots_of.Given as goal

abbrev pub invariant-loop-field : goal.invariant-loop-field
invariant-loop-field l = l.slots ++ filter_map (λ field. field_slot l.self.classes (field_content field))
    (drop l.field-index l.fields) ≡ filter_map (λ field. field_slot l.self.classes (field_content field)) l.fields
