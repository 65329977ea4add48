use Rattle.std.proofs.Common.{◌≡◌, ◌++◌, take}
use Rattle.bound_check.proofs.entries.add_copies.Given as goal

abbrev pub invariant-loop-form : goal.invariant-loop-form
invariant-loop-form l = l.forms ≡ l.initial.forms ++ take l.form-index l.more
