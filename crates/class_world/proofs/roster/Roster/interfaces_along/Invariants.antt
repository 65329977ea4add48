use Rattle.std.proofs.Common.{◌≡◌, ◌++◌, length}
use Rattle.std.specs.Prelude.{reverse}
use Rattle.std.specs.List.{flat_map}
use Rattle.class_world.specs.inner.Once.{interfaces_once}
use Rattle.class_world.specs.World.{line_of}
use Rattle.class_world.proofs.roster.Roster.interfaces_along.Given as goal

abbrev pub invariant-loop-here : goal.invariant-loop-here
invariant-loop-here l = flat_map (interfaces_once l.self.classes) l.line.items ++ reverse l.todo.items ≡ flat_map
    (interfaces_once l.self.classes) (line_of l.self.classes l.class)

abbrev pub decreases-loop-here : goal.decreases-loop-here
decreases-loop-here l = length l.line.items
