use Rattle.std.proofs.Common.{◌+◌, length}
use Rattle.class_world.specs.inner.Once.{interfaces_once}
use Rattle.class_world.proofs.Seeking.{left_from}
use Rattle.class_world.proofs.Gathering.{Gathering}
use Rattle.class_world.proofs.roster.Roster.sought_in.Given as goal

abbrev pub invariant-loop-interface : goal.invariant-loop-interface
invariant-loop-interface l = Gathering l.self.classes l.class l.seen.items l.todo.items l.found

abbrev pub decreases-loop-interface : goal.decreases-loop-interface
decreases-loop-interface l = left_from (interfaces_once l.self.classes) 0 l.seen.items + length l.todo.items
