use Rattle.std.proofs.Common.{◌-◌, ◌≤◌, length}
use Rattle.abs_cells.specs.PairLists.{place_in}
use Rattle.abs_cells.proofs.pairs.place_of.Given as goal

abbrev pub invariant-loop-low : goal.invariant-loop-low
invariant-loop-low l = record {
  order : l.low ≤ l.high;
  end : l.high ≤ length l.pairs;
  below : l.low ≤ place_in l.pair l.pairs;
  above : place_in l.pair l.pairs ≤ l.high;
}

abbrev pub decreases-loop-low : goal.decreases-loop-low
decreases-loop-low l = l.high - l.low
