use Rattle.std.proofs.Common.{◌≡◌}
use Rattle.loop_check.specs.inner.Words.{NoneBefore}
use Rattle.loop_check.proofs.ends.first_end.Given as goal

abbrev pub invariant-loop-n : goal.invariant-loop-n
invariant-loop-n g l = record {
  same : g.S.NodeSource.graph l.source ≡ g.S.NodeSource.graph l.initial.source;
  none : NoneBefore (g.S.NodeSource.graph l.initial.source) l.n;
}
