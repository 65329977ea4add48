use Rattle.std.proofs.Common.{◌≡◌, take}
use Rattle.throw_report.specs.Reports.{rows_of}
use Rattle.throw_report.proofs.reaching.rows_of.Given as goal

abbrev pub invariant-loop-n : goal.invariant-loop-n
invariant-loop-n g l = record {
  same : g.S.NodeSource.graph l.source ≡ g.S.NodeSource.graph l.initial.source;
  made : l.rows ≡ rows_of (take l.n (g.S.NodeSource.graph l.initial.source));
}
