use Rattle.std.proofs.Common.{◌≡◌, drop}
use Rattle.bound_check.specs.Entries.{is_named}
use Rattle.bound_check.proofs.entries.is_named.Given as goal

abbrev pub invariant-loop-entry : goal.invariant-loop-entry
invariant-loop-entry l = is_named l.step (drop l.entry-index l.entries) ≡ is_named l.step l.entries
