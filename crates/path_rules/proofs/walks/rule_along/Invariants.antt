use Rattle.std.proofs.Common.{◌≡◌, drop}
use Rattle.path_rules.proofs.Riding.{IsOnPath}
use Rattle.path_rules.proofs.walks.rule_along.Given as goal

abbrev pub invariant-loop-place : goal.invariant-loop-place
invariant-loop-place g l = record {
  same : g.S.NodeSource.graph l.source ≡ g.S.NodeSource.graph l.initial.source;
  on : IsOnPath (g.S.NodeSource.graph l.initial.source) l.links.nodes l.from l.way.places (drop l.place-index l.way.places)
      l.walk.at l.walk.stop.node l.walk.stop.first l.walk.rows;
}
