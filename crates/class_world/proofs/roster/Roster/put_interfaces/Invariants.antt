use Rattle.std.proofs.Common.{◌≡◌, ◌++◌, length}
use Rattle.std.specs.Prelude.{reverse}
use Rattle.class_world.specs.inner.Once.{interfaces_once}
use Rattle.class_world.proofs.roster.Roster.put_interfaces.Given as goal

abbrev pub invariant-loop-interface : goal.invariant-loop-interface
invariant-loop-interface l = l.interfaces.items ++ reverse l.todo.items ≡ interfaces_once l.self.classes l.class ++ reverse
    l.initial.todo.items

abbrev pub decreases-loop-interface : goal.decreases-loop-interface
decreases-loop-interface l = length l.interfaces.items
