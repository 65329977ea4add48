use Rattle.std.proofs.Common.{◌≡◌, map}
use Rattle.its_front.specs.Reading.{slot_of}
use Rattle.list_views.specs.Lists.{numbers_from}
use Rattle.its_front.proofs.rules.slots_of.Given as goal

abbrev pub invariant-loop-number : goal.invariant-loop-number
invariant-loop-number l = l.slots ≡ map (slot_of l.from) (numbers_from 0 l.number)
