use Rattle.std.proofs.Common.{take}
use Rattle.std.specs.Prelude.{All}
use Rattle.class_program.specs.class_world.Worlds.{classes_of}
use Rattle.code_verify.specs.Flows.{CanCatch}
use Rattle.code_verify.proofs.method.can_catch.Given as goal

abbrev pub invariant-loop-range : goal.invariant-loop-range
invariant-loop-range l = All (CanCatch (classes_of l.world)) (take l.range-index l.ranges)
