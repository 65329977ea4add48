use Rattle.std.proofs.Common.{sym}
use Rattle.jvm_values.specs.States.{types_of as seen}
use Rattle.class_program.specs.class_world.Worlds.{classes_of}
use Rattle.frame_types.proofs.GrowthLaws.{grown_taken}
use Rattle.code_verify.proofs.WorldOf.{laws_at}
use Rattle.code_verify.proofs.FlowLaws.{came}
use Rattle.code_verify.proofs.Passing.{passed_from}
use Rattle.code_verify.proofs.passed.pass_handlers.Goals as goal

pub returns-then-has-clause-comes : goal.returns-then-has-clause-comes
returns-then-has-clause-comes c =
    let p = c.has.ensures.place c.if-has.true in
    grown_taken _ (laws_at c.args.world.now) _ c.args.table.now c.requires.table
    (c.requires.passed c.args.place (seen c.args.frame.now) p.0 p.1 (sym (c.has.ensures.locals c.if-has.true)))

pub returns-clause-passed : goal.returns-clause-passed
returns-clause-passed c = λ e.
    passed_from (classes_of c.args.world.now) (laws_at c.args.world.now) c.args.ranges.now _ c.in_ok-later.later c.args.place
    (seen c.args.frame.now) c.in_ok-later.ensures.locals c.in_ok-later.ensures.places
    (came _ (laws_at c.args.world.now) _ _ _ _ e c.in_ok-entered.ensures).taken
