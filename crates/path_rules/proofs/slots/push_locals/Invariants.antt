use Rattle.std.proofs.Common.{◌≡◌, ◌++◌, drop}
use Rattle.path_rules.specs.Rules.{locals_with}
use Rattle.path_rules.proofs.slots.push_locals.Given as goal

abbrev pub invariant-loop-place : goal.invariant-loop-place
invariant-loop-place l = l.places ++ locals_with l.id l.frame l.place (drop l.place l.locals) ≡ l.initial.places ++ locals_with l.id
    l.frame 0 l.locals
