use Rattle.std.proofs.Common.{◌≡◌, ◌++◌, reverse, length}
use Rattle.std.specs.List.{flat_map}
use Rattle.class_world.specs.Fields.{own_slots, fields_of}
use Rattle.class_world.proofs.roster.Roster.fields_of.Given as goal

abbrev pub invariant-loop-here : goal.invariant-loop-here
invariant-loop-here l = l.slots ++ flat_map (own_slots l.self.classes) (reverse l.line.items) ≡ fields_of l.self.classes l.class

abbrev pub decreases-loop-here : goal.decreases-loop-here
decreases-loop-here l = length l.line.items
