use Rattle.std.proofs.Common.{◌≡◌, map, take}
use Rattle.input_desc.specs.Given.{argument_slot}
use Rattle.input_desc.proofs.given.argument_slots.Given as goal

abbrev pub invariant-loop-slot : goal.invariant-loop-slot
invariant-loop-slot l = l.slots ≡ map argument_slot (take l.slot-index l.params)
