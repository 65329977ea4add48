use Rattle.std.proofs.Common.{◌≡◌, drop}
use Rattle.bound_check.specs.inner.Words.{spares_cuts}
use Rattle.bound_check.proofs.lists.spares_cuts.Given as goal

abbrev pub invariant-loop-form : goal.invariant-loop-form
invariant-loop-form l = spares_cuts l.rules l.set l.step (drop l.form-index l.forms) ≡ spares_cuts l.rules l.set l.step l.forms
