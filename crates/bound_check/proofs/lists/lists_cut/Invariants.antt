use Rattle.std.proofs.Common.{◌≡◌, drop}
use Rattle.bound_check.specs.inner.Words.{lists_cut}
use Rattle.bound_check.proofs.lists.lists_cut.Given as goal

abbrev pub invariant-loop-form : goal.invariant-loop-form
invariant-loop-form l = lists_cut (drop l.form-index l.forms) l.cut ≡ lists_cut l.forms l.cut
