use Rattle.std.proofs.Common.{◌≡◌, drop}
use Rattle.std.specs.List.{list_all}
use Rattle.bound_check.specs.Entries.{form_rises}
use Rattle.bound_check.proofs.lists.forms_rise.Given as goal

abbrev pub invariant-loop-form : goal.invariant-loop-form
invariant-loop-form l = list_all form_rises (drop l.form-index l.forms) ≡ list_all form_rises l.forms
