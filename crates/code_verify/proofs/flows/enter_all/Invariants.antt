use Rattle.std.proofs.Common.{take}
use Rattle.jvm_values.specs.States.{types_of as seen}
use Rattle.class_program.specs.class_world.Worlds.{classes_of}
use Rattle.class_program.specs.class_world.WorldTypes.{types_of}
use Rattle.frame_types.specs.Growth.{IsGrown}
use Rattle.code_verify.specs.Flows.{onward}
use Rattle.code_verify.proofs.flows.enter_all.Given as goal

abbrev pub invariant-loop-place : goal.invariant-loop-place
invariant-loop-place l = IsGrown (types_of (classes_of l.world)) (onward (seen l.frame) (take l.place-index l.places)) l.fn.table l.table
