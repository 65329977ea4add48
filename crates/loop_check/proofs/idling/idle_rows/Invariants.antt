use Rattle.std.proofs.Common.{◌≡◌, take}
use Rattle.loop_check.specs.Loops.{idle_rows}
use Rattle.loop_check.proofs.idling.idle_rows.Given as goal

abbrev pub invariant-loop-n : goal.invariant-loop-n
invariant-loop-n g l = record {
  same : g.S.NodeSource.graph l.source ≡ g.S.NodeSource.graph l.initial.source;
  made : l.rows ≡ idle_rows (take l.n (g.S.NodeSource.graph l.initial.source)) l.links.nodes;
}
