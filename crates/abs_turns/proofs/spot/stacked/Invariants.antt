use Rattle.std.proofs.Common.{◌≡◌, take, reverse}
use Rattle.abs_turns.proofs.spot.stacked.Given as goal

abbrev pub invariant-loop-id : goal.invariant-loop-id
invariant-loop-id l = l.stack.0 ≡ reverse (take l.id-index l.ids)
