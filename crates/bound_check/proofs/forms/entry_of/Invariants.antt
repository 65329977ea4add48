use Rattle.std.proofs.Common.{◌≡◌, drop}
use Rattle.bound_check.specs.Bounds.{entry_of}
use Rattle.bound_check.proofs.forms.entry_of.Given as goal

abbrev pub invariant-loop-entry : goal.invariant-loop-entry
invariant-loop-entry l = entry_of l.step (drop l.entry-index l.entries) ≡ entry_of l.step l.entries
