use Rattle.std.proofs.Common.{map, take}
use Rattle.class_program.specs.Views.{program_of}
use Rattle.class_program.specs.class_world.WorldTypes.{types_of}
use Rattle.abs_plans.specs.abs_turns.PlansSeen.{turn_seen}
use Rattle.abs_expand.specs.Expansions.{AreFew}
use Rattle.abs_expand.specs.inner.Building.{turn_counts}
use Rattle.abs_expand.proofs.expanding.first_too_many.Given as goal

abbrev pub invariant-loop-n : goal.invariant-loop-n
invariant-loop-n g l = AreFew (take l.n (turn_counts (types_of (program_of l.program).world) l.count (map turn_seen l.turns)))
