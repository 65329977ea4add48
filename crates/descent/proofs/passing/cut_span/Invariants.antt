use Rattle.std.proofs.Common.{◌≤◌}
use Rattle.descent.proofs.passing.cut_span.Given as goal

abbrev pub invariant-loop-number : goal.invariant-loop-number
invariant-loop-number l = l.span ≤ 1048576
