use Rattle.std.proofs.Common.{drop}
use Rattle.lin_core.specs.Rows.{RiseFrom}
use Rattle.rank_forms.proofs.limits.classes_rise.Given as goal

abbrev pub invariant-loop-class : goal.invariant-loop-class
invariant-loop-class l = RiseFrom l.low 4294967296 (drop l.class-index l.weights) → RiseFrom 0 4294967296 l.weights
