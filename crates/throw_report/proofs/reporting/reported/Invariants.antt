use Rattle.std.proofs.Common.{◌≡◌}
use Rattle.throw_report.specs.Reports.{Reports}
use Rattle.throw_report.proofs.Adding.{Before}
use Rattle.throw_report.proofs.reporting.reported.Given as goal

abbrev pub invariant-loop-n : goal.invariant-loop-n
invariant-loop-n g l = record {
  same : g.S.NodeSource.graph l.source ≡ g.S.NodeSource.graph l.initial.source;
  made : Reports (g.S.NodeSource.graph l.initial.source) (Before (g.S.NodeSource.graph l.initial.source) l.n) l.report;
}
