use Rattle.std.proofs.Common.{◌≡◌, ◌++◌, drop}
use Rattle.bound_check.specs.inner.Forms.{kept_ints}
use Rattle.bound_check.proofs.forms.kept_ints.Given as goal

abbrev pub invariant-loop-entry : goal.invariant-loop-entry
invariant-loop-entry g l = l.kept ++ kept_ints l.state (drop l.entry-index l.entries) ≡ kept_ints l.state l.entries
