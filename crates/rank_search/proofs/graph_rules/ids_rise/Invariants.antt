use Rattle.std.proofs.Common.{drop}
use Rattle.lin_core.specs.Rows.{RiseFrom}
use Rattle.rank_forms.specs.Graphs.{ids_of}
use Rattle.rank_search.proofs.graph_rules.ids_rise.Given as goal

abbrev pub invariant-loop-slot : goal.invariant-loop-slot
invariant-loop-slot l = RiseFrom l.low 65536 (ids_of l.size (drop l.slot-index l.slots)) → RiseFrom 0 65536 (ids_of l.size l.slots)
