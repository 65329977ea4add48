use Rattle.std.proofs.Common.{◌≡◌, ◌≤◌, length}
use Rattle.graph_build.specs.inner.Working.{seen, IsSound, work_left}
use Rattle.graph_build.proofs.building.build.Given as goal

abbrev pub invariant-loop-alloc : goal.invariant-loop-alloc
invariant-loop-alloc g l = record {
  sound : IsSound (g.G.Grower.rules (g.G.Grower.meaning l.initial.grower)) (g.G.Grower.good (g.G.Grower.meaning l.initial.grower))
      l.fn.root (seen l.growing);
  same : g.G.Grower.meaning l.grower ≡ g.G.Grower.meaning l.initial.grower;
  few : length l.growing.graph ≤ l.limit;
}

abbrev pub decreases-loop-alloc : goal.decreases-loop-alloc
decreases-loop-alloc g l = work_left l.limit (seen l.growing)
