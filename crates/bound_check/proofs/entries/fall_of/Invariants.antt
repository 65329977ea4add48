use Rattle.std.proofs.Common.{◌≡◌, drop}
use Rattle.bound_check.specs.Entries.{fall_of}
use Rattle.bound_check.proofs.entries.fall_of.Given as goal

abbrev pub invariant-loop-listed : goal.invariant-loop-listed
invariant-loop-listed l = fall_of l.rule (drop l.listed-index l.rules) ≡ fall_of l.rule l.rules
