use Rattle.std.proofs.Common.{◌≡◌, take}
use Rattle.bound_check.specs.inner.Walking.{ends_of}
use Rattle.bound_check.proofs.walks.end_marks.Given as goal

abbrev pub invariant-loop-n : goal.invariant-loop-n
invariant-loop-n g l = record {
  same : g.S.NodeSource.graph l.source ≡ g.S.NodeSource.graph l.initial.source;
  made : l.ends ≡ ends_of (take l.n (g.S.NodeSource.graph l.initial.source));
}
