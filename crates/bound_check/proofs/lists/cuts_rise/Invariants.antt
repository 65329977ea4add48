use Rattle.std.proofs.Common.{◌≡◌, drop}
use Rattle.bound_check.specs.Entries.{rise_after, rises}
use Rattle.bound_check.specs.inner.Words.{form_cuts}
use Rattle.bound_check.proofs.lists.cuts_rise.Given as goal

abbrev pub invariant-loop-form : goal.invariant-loop-form
invariant-loop-form l = rise_after l.before (form_cuts (drop l.form-index l.forms)) ≡ rises (form_cuts l.forms)
