use Rattle.std.proofs.Common.{◌≡◌, ◌++◌, ◌≤◌, drop}
use Rattle.lin_core.specs.Rows.{RiseFrom}
use Rattle.rank_forms.specs.inner.Weighing.{ones_from}
use Rattle.rank_forms.proofs.weights.ones_of.Given as goal

abbrev pub invariant-loop-class : goal.invariant-loop-class
invariant-loop-class l = record {
  ones : l.weights ++ ones_from l.low (drop l.class-index l.classes) ≡ ones_from 0 l.classes;
  rise : RiseFrom 0 l.low l.weights;
  low : l.low ≤ 4294967296;
}
