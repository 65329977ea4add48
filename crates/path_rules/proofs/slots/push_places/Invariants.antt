use Rattle.std.proofs.Common.{◌≡◌, ◌++◌, drop}
use Rattle.path_rules.specs.Rules.{places_from}
use Rattle.path_rules.proofs.slots.push_places.Given as goal

abbrev pub invariant-loop-place : goal.invariant-loop-place
invariant-loop-place l = l.places ++ places_from l.id l.place (drop l.place l.frames) ≡ l.initial.places ++ places_from l.id 0 l.frames
