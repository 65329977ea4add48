use Rattle.std.proofs.Common.{List, sym, subst}
use Rattle.jvm_values.specs.States.{types_of as seen}
use Rattle.class_program.specs.class_world.Worlds.{classes_of}
use Rattle.class_program.specs.class_world.WorldTypes.{types_of}
use Rattle.class_program.specs.declared.program.CatchRange.{CatchRange}
use Rattle.class_program.specs.Views.{program_of}
use Rattle.op_forms.specs.Forms.{form_seen}
use Rattle.frame_types.specs.Places.{IsProper}
use Rattle.frame_types.specs.Tables.{types_at}
use Rattle.code_verify.specs.inner.Solving.{IsPassed}
use Rattle.code_verify.proofs.WorldOf.{laws_at}
use Rattle.code_verify.proofs.FlowLaws.{came, did_not_come}
use Rattle.code_verify.proofs.Running.{run_proper}
use Rattle.code_verify.proofs.Looking.{looked_none, looked_away, looked_on, ran_there}
use Rattle.code_verify.proofs.Passing.{passed_on}
use Rattle.code_verify.proofs.method.look.Goals as goal

pub returns-in_default-clause-looks : goal.returns-in_default-clause-looks
returns-in_default-clause-looks c =
    let h = rw c.in_default.is at c.in_ok-ran.ensures in
    looked_none (program_of c.args.program.now) c.args.method.now c.args.place (seen c.args.frame.now) c.args.table.now
    c.args.table.now (ran_there (program_of c.args.program.now) c.args.method.now c.args.place (seen c.args.frame.now)
    (seen c.in_ok-after.after) c.in_ok-after.ensures _ h)

pub enter_ways-requires-clause-proper : goal.enter_ways-requires-clause-proper
enter_ways-requires-clause-proper c =
    let h = rw c.in-Some.is at c.in_ok-ran.ensures in
    run_proper (program_of c.args.program.now) c.args.method.now c.requires.good c.requires.method
    (laws_at c.args.program.now.world) c.args.place c.args.table.now.max_locals (seen c.in_ok-after.after)
    (form_seen c.in-Some.form, c.in-Some.next, seen c.run_at.new.frame)
    (subst (IsProper (types_of (classes_of c.args.program.now.world)) c.args.table.now.max_locals) (sym c.in_ok-after.ensures)
    c.requires.proper) h

pub returns-then-not-entered-clause-looks : goal.returns-then-not-entered-clause-looks
returns-then-not-entered-clause-looks c =
    let h = rw c.in-Some.is at c.in_ok-ran.ensures in
    looked_away (program_of c.args.program.now) c.args.method.now c.args.place (seen c.args.frame.now)
    (laws_at c.args.program.now.world) (form_seen c.in-Some.form, c.in-Some.next, seen c.run_at.new.frame)
    (ran_there (program_of c.args.program.now) c.args.method.now c.args.place (seen c.args.frame.now) (seen c.in_ok-after.after)
    c.in_ok-after.ensures _ h) c.args.table.now c.enter_ways.new.table
    (did_not_come _ (laws_at c.args.program.now.world) _ _ _ _ c.if-not-entered.true c.in_ok-entered.ensures)

pub pass_handlers-requires-clause-passed : goal.pass_handlers-requires-clause-passed
pass_handlers-requires-clause-passed c =
    let g = came _ (laws_at c.args.program.now.world) _ _ _ _ c.if-not-entered.false c.in_ok-entered.ensures in
    subst (λ (rs : List CatchRange). IsPassed (classes_of c.args.program.now.world) rs (types_at c.enter_ways.new.table.types)
    c.args.passed.now) (sym c.as_slice.ensures)
    (passed_on (classes_of c.args.program.now.world) (laws_at c.args.program.now.world) c.args.method.now.table
    (types_at c.args.table.now.types) (types_at c.enter_ways.new.table.types) c.args.passed.now g.kept c.requires.passed)

pub returns-clause-looks : goal.returns-clause-looks
returns-clause-looks c =
    let h = rw c.in-Some.is at c.in_ok-ran.ensures in
    let k = rw c.as_slice.ensures at c.pass_handlers.ensures.comes in
    looked_on (program_of c.args.program.now) c.args.method.now c.args.place (seen c.args.frame.now)
    (laws_at c.args.program.now.world) (form_seen c.in-Some.form, c.in-Some.next, seen c.run_at.new.frame)
    (ran_there (program_of c.args.program.now) c.args.method.now c.args.place (seen c.args.frame.now) (seen c.in_ok-after.after)
    c.in_ok-after.ensures _ h) c.pass_handlers.result c.args.table.now c.enter_ways.new.table _
    (came _ (laws_at c.args.program.now.world) _ _ _ _ c.if-not-entered.false c.in_ok-entered.ensures) k

pub returns-clause-passed : goal.returns-clause-passed
returns-clause-passed c = rw c.as_slice.ensures at c.pass_handlers.ensures.passed
