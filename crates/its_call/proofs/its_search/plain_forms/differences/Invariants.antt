use Rattle.std.proofs.Common.{None}
use Rattle.its_call.specs.its_search.inner.Tried.{Tells}
use Rattle.its_call.proofs.Trying.{IsDifferenceBelow}
use Rattle.its_call.proofs.its_search.plain_forms.differences.Given as goal

abbrev pub invariant-loop-other : goal.invariant-loop-other
invariant-loop-other l = Tells l.count l.rules (IsDifferenceBelow l.one l.other) None
