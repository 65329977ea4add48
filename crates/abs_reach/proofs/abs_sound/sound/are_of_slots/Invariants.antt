use Rattle.std.proofs.Common.{◌≡◌, drop}
use Rattle.abs_reach.specs.abs_sound.Zips.{all_zip}
use Rattle.abs_reach.specs.abs_sound.Tests.{is_of_slot}
use Rattle.abs_reach.proofs.abs_sound.sound.are_of_slots.Given as goal

abbrev pub invariant-loop-n : goal.invariant-loop-n
invariant-loop-n l = all_zip (is_of_slot l.cells) (drop l.n l.slots) (drop l.n l.ids) ≡ all_zip (is_of_slot l.cells) l.slots l.ids
