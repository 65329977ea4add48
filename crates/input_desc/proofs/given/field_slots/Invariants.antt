use Rattle.std.proofs.Common.{◌≡◌, map, take}
use Rattle.input_desc.specs.Given.{field_slot}
use Rattle.input_desc.proofs.given.field_slots.Given as goal

abbrev pub invariant-loop-field : goal.invariant-loop-field
invariant-loop-field l = l.slots ≡ map field_slot (take l.field-index l.fields)
