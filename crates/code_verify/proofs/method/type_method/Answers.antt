use Rattle.std.proofs.Common.{refl}
use Rattle.class_program.specs.class_world.Worlds.{classes_of}
use Rattle.class_program.specs.Views.{program_of}
use Rattle.frame_types.specs.Tables.{types_at}
use Rattle.code_verify.proofs.Passing.{nothing_passed}
use Rattle.code_verify.proofs.Steps.{not_caught, caught_all}
use Rattle.code_verify.proofs.method.type_method.Goals as goal

pub returns-then-not-can_catch : goal.returns-then-not-can_catch
returns-then-not-can_catch c = not_caught (program_of c.args.program.now) c.args.method.now c.as_slice.result.now c.can_catch.result
    c.as_slice.ensures c.if-not-can_catch.true c.can_catch.ensures

pub first_table-requires-clause-catches : goal.first_table-requires-clause-catches
first_table-requires-clause-catches c = caught_all (program_of c.args.program.now) c.args.method.now c.as_slice.result.now
    c.can_catch.result c.as_slice.ensures c.if-not-can_catch.false c.can_catch.ensures

pub loop-passed-init : goal.loop-passed-init
loop-passed-init c = (
  rw c.in-Some.is at c.in_ok-first.ensures,
  nothing_passed (classes_of c.args.program.now.world) c.args.method.now.table (types_at c.in-Some.table.types)
      c.nothing-passed.result c.nothing-passed.ensures,
)
