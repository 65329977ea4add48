use Rattle.std.proofs.Common.{◌≡◌}
use Rattle.graph_check.specs.inner.Checked.{FirstNamed}
use Rattle.graph_check.proofs.children.first_other.Given as goal

abbrev pub invariant-loop-place : goal.invariant-loop-place
invariant-loop-place g l = record {
  same : g.S.NodeSource.graph l.source ≡ g.S.NodeSource.graph l.initial.source;
  named : FirstNamed (g.S.NodeSource.graph l.initial.source) l.children l.named l.place;
}
