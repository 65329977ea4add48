use Rattle.class_program.specs.class_world.Worlds.{classes_of}
use Rattle.class_program.specs.class_world.WorldTypes.{types_of}
use Rattle.class_program.specs.Views.{program_of}
use Rattle.frame_types.specs.Tables.{types_at}
use Rattle.frame_types.specs.Work.{work_left}
use Rattle.code_verify.specs.inner.Solving.{IsSolving, IsPassed}
use Rattle.code_verify.proofs.method.type_method.Given as goal

abbrev pub invariant-loop-passed : goal.invariant-loop-passed
invariant-loop-passed l = IsSolving (program_of l.program) l.method l.table × IsPassed (classes_of l.program.world) l.method.table
    (types_at l.table.types) l.passed

abbrev pub decreases-loop-passed : goal.decreases-loop-passed
decreases-loop-passed l = work_left (types_of (classes_of l.program.world)) l.table
