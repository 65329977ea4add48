use Rattle.std.proofs.Common.{ℕ, ◌<◌, length}
use Rattle.graph_build.specs.Disciplined.{IsAbove, IsAtOrAbove}
use Rattle.graph_build.specs.inner.Working.{parent_in, IsAlike}
use Rattle.graph_build.proofs.due.nearest_above.Given as goal

abbrev pub invariant-loop-at : goal.invariant-loop-at
invariant-loop-at g l = record {
  way : IsAtOrAbove (parent_in l.parents) l.at l.n;
  passed : (u : ℕ) → IsAlike l.graph (parent_in l.parents) l.n l.state u → IsAbove (parent_in l.parents) u l.at;
  within : l.at < length l.graph;
}

abbrev pub decreases-loop-at : goal.decreases-loop-at
decreases-loop-at g l = l.at
