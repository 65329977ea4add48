use Rattle.std.proofs.Common.{take, map}
use Rattle.jvm_values.specs.States.{types_of as seen}
use Rattle.class_program.specs.class_world.Worlds.{classes_of}
use Rattle.class_program.specs.class_world.WorldTypes.{types_of}
use Rattle.frame_types.specs.Growth.{IsGrown}
use Rattle.code_verify.specs.Flows.{onward}
use Rattle.code_verify.proofs.flows.enter_cases.Given as goal

abbrev pub invariant-loop-case : goal.invariant-loop-case
invariant-loop-case l = IsGrown (types_of (classes_of l.world))
    (onward (seen l.frame) (map (λ c. c.target) (take l.case-index l.cases))) l.fn.table l.table
