use Rattle.std.proofs.Common.{◌≡◌, ◌++◌, drop}
use Rattle.bound_check.specs.inner.Forms.{is_sized}
use Rattle.bound_check.specs.Bounds.{terms_from}
use Rattle.bound_check.proofs.forms.terms.Given as goal

abbrev pub invariant-loop-n : goal.invariant-loop-n
invariant-loop-n g l = l.terms ++ terms_from l.root (is_sized l.root) l.steps l.entries l.n (drop l.n l.steps)
    ≡ terms_from l.root (is_sized l.root) l.steps l.entries 0 l.steps
