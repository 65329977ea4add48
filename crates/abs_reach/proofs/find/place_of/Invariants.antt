use Rattle.std.proofs.Common.{◌-◌, ℕ, ◌<◌, ◌≤◌, length, get_or}
use Rattle.abs_reach.proofs.find.place_of.Given as goal

abbrev pub invariant-loop-low : goal.invariant-loop-low
invariant-loop-low g l = record {
  order : l.low ≤ l.high;
  end : l.high ≤ length l.pairs;
  below : (k : ℕ) (d : ℕ × _) → k < l.low → (get_or l.pairs k d).0 < l.id;
  above : (k : ℕ) (d : ℕ × _) → l.high ≤ k → k < length l.pairs → l.id < (get_or l.pairs k d).0;
}

abbrev pub decreases-loop-low : goal.decreases-loop-low
decreases-loop-low g l = l.high - l.low
