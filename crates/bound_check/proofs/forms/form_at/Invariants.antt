use Rattle.std.proofs.Common.{◌≡◌, drop}
use Rattle.descent.specs.Rankings.{form_at}
use Rattle.bound_check.proofs.forms.form_at.Given as goal

abbrev pub invariant-loop-form : goal.invariant-loop-form
invariant-loop-form l = form_at (drop l.form-index l.forms) l.cut ≡ form_at l.forms l.cut
