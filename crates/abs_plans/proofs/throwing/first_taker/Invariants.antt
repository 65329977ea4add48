use Rattle.std.proofs.Common.{◌≡◌, ◌≤◌, length, drop}
use Rattle.abs_turns.specs.code_verify.Flows.{covers}
use Rattle.abs_turns.specs.Table.{types_here}
use Rattle.abs_turns.specs.Stops.{taker_of, may_of}
use Rattle.abs_plans.proofs.throwing.first_taker.Given as goal

abbrev pub invariant-loop-n : goal.invariant-loop-n
invariant-loop-n g l = record {
  inside : l.n ≤ length l.table;
  may : l.found.may ≡ may_of (types_here l.spot) l.spot.state l.x (covers l.spot.frame.pc) (drop l.n l.table);
  taker : l.found.taker ≡ taker_of (types_here l.spot) l.spot.state l.x (covers l.spot.frame.pc) (drop l.n l.table);
}

abbrev pub decreases-loop-n : goal.decreases-loop-n
decreases-loop-n g l = l.n
