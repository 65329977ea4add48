use Rattle.std.proofs.Common.{◌≡◌, drop}
use Rattle.throw_report.specs.inner.Words.{class_in}
use Rattle.throw_report.proofs.reporting.class_in.Given as goal

abbrev pub invariant-loop-other : goal.invariant-loop-other
invariant-loop-other l = class_in (drop l.other-index l.cells) l.id ≡ class_in l.cells l.id
