use Rattle.std.proofs.Common.{◌↔◌, drop}
use Rattle.cert_check.specs.inner.PartChecks.{AreCutsFrom}
use Rattle.cert_check.proofs.cuts.rise_below.Given as goal

abbrev pub invariant-loop-cut : goal.invariant-loop-cut
invariant-loop-cut l = AreCutsFrom l.nodes l.low (drop l.cut-index l.cuts) ↔ AreCutsFrom l.nodes 0 l.cuts
