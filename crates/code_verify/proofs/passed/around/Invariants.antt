use Rattle.std.proofs.Common.{◌≡◌, ℕ, ◌<◌, ◌≤◌, take}
use Rattle.std.specs.Prelude.{filter}
use Rattle.code_verify.specs.Flows.{covers}
use Rattle.code_verify.proofs.passed.around.Given as goal

abbrev pub invariant-loop-range : goal.invariant-loop-range
invariant-loop-range l = (l.around.low ≤ l.place) × (l.place < l.around.end)
    × ((q : ℕ) → l.around.low ≤ q → q < l.around.end
    → filter (covers q) (take l.range-index l.ranges) ≡ filter (covers l.place) (take l.range-index l.ranges))
