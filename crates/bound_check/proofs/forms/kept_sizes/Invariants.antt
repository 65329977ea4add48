use Rattle.std.proofs.Common.{◌≡◌, ◌++◌, drop}
use Rattle.bound_check.specs.inner.Forms.{is_sized, kept_sizes}
use Rattle.bound_check.proofs.forms.kept_sizes.Given as goal

abbrev pub invariant-loop-entry : goal.invariant-loop-entry
invariant-loop-entry g l = l.kept ++ kept_sizes (is_sized l.state) (drop l.entry-index l.entries) ≡ kept_sizes (is_sized l.state) l.entries
