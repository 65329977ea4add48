use Rattle.std.proofs.Common.{drop}
use Rattle.lin_core.specs.Rows.{RiseFrom}
use Rattle.cert_making.proofs.bound_search.limits.rise_below.Given as goal

abbrev pub invariant-loop-variable : goal.invariant-loop-variable
invariant-loop-variable l = RiseFrom l.low l.end (drop l.variable-index l.terms) → RiseFrom 0 l.end l.terms
