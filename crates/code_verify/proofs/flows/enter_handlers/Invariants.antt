use Rattle.std.proofs.Common.{◌≡◌, take}
use Rattle.jvm_values.specs.States.{types_of as seen}
use Rattle.class_program.specs.class_world.Worlds.{classes_of}
use Rattle.class_program.specs.class_world.WorldTypes.{types_of}
use Rattle.frame_types.specs.Growth.{IsGrown}
use Rattle.code_verify.specs.Flows.{caught}
use Rattle.code_verify.proofs.flows.enter_handlers.Given as goal

abbrev pub invariant-loop-range : goal.invariant-loop-range
invariant-loop-range l = IsGrown (types_of (classes_of l.world))
    (caught (classes_of l.world) l.place (seen l.fn.frame) (take l.range-index l.ranges)) l.fn.table l.table
    × (l.frame.locals ≡ l.fn.frame.locals)
