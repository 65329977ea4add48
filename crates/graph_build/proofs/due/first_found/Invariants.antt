use Rattle.std.proofs.Common.{◌≡◌, ℕ, ◌<◌}
use Rattle.graph_build.specs.inner.Working.{IsPassed}
use Rattle.graph_build.proofs.due.first_found.Given as goal

abbrev pub invariant-loop-u : goal.invariant-loop-u
invariant-loop-u g l = record {
  passed : (v : ℕ) → v < l.u → IsPassed (g.G.Grower.rules (g.G.Grower.meaning l.initial.grower)) l.graph l.state v;
  same : g.G.Grower.meaning l.grower ≡ g.G.Grower.meaning l.initial.grower;
}
