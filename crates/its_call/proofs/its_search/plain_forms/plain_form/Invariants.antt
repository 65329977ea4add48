use Rattle.std.proofs.Common.{None}
use Rattle.its_call.specs.its_search.inner.Tried.{Tells}
use Rattle.its_call.proofs.Trying.{BeginsBelow}
use Rattle.its_call.proofs.its_search.plain_forms.plain_form.Given as goal

abbrev pub invariant-loop-one : goal.invariant-loop-one
invariant-loop-one l = Tells l.count l.rules (BeginsBelow l.one) None
