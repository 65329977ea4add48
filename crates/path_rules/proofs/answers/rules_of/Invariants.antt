use Rattle.std.proofs.Common.{◌≡◌}
use Rattle.path_rules.specs.inner.Ways.{paths_of}
use Rattle.path_rules.proofs.Ruling.{AreSoFar}
use Rattle.path_rules.proofs.answers.rules_of.Given as goal

abbrev pub invariant-loop-path : goal.invariant-loop-path
invariant-loop-path g l = record {
  same : g.S.NodeSource.graph l.source ≡ g.S.NodeSource.graph l.initial.source;
  so : AreSoFar (g.S.NodeSource.graph l.initial.source) l.links.nodes l.cuts (paths_of l.ways l.cuts) l.rules l.path l.rows;
}
