use Rattle.std.proofs.Common.{◌≡◌, ◌++◌, drop}
use Rattle.path_rules.specs.Rules.{entries_with}
use Rattle.path_rules.proofs.slots.push_entries.Given as goal

abbrev pub invariant-loop-place : goal.invariant-loop-place
invariant-loop-place l = l.places ++ entries_with l.id l.frame l.place (drop l.place l.stack) ≡ l.initial.places ++ entries_with
    l.id l.frame 0 l.stack
