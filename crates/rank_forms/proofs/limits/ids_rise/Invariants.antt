use Rattle.std.proofs.Common.{drop}
use Rattle.lin_core.specs.Rows.{RiseFrom}
use Rattle.rank_forms.proofs.limits.ids_rise.Given as goal

abbrev pub invariant-loop-id : goal.invariant-loop-id
invariant-loop-id l = RiseFrom l.low 65536 (drop l.id-index l.entries) → RiseFrom 0 65536 l.entries
