use Rattle.std.proofs.Common.{◌≤◌, drop}
use Rattle.lin_core.proofs.Matching.{IsMatched}
use Rattle.lin_core.proofs.showing.shows.Given as goal

abbrev pub invariant-loop-variable : goal.invariant-loop-variable
invariant-loop-variable l = IsMatched l.target.terms (drop l.variable-index l.variable-items) l.sum l.found × (l.found ≤ l.variable-index)
