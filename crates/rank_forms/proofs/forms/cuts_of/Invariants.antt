use Rattle.std.proofs.Common.{◌-◌, ◌≤◌}
use Rattle.rank_forms.proofs.Cut.{AreCutsTo}
use Rattle.rank_forms.proofs.forms.cuts_of.Given as goal

abbrev pub invariant-loop-cut : goal.invariant-loop-cut
invariant-loop-cut l = AreCutsTo l.rules l.cuts l.low × (l.low ≤ 4294967296)

abbrev pub decreases-loop-cut : goal.decreases-loop-cut
decreases-loop-cut l = 4294967297 - l.low
