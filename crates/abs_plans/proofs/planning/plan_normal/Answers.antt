use Rattle.std.proofs.Common.{◌∙◌, Some, None, reverse}
use Rattle.class_program.specs.Programs.{insn_at}
use Rattle.class_program.specs.Views.{program_of}
use Rattle.abs_turns.specs.code_verify.Typings.{typing_at}
use Rattle.abs_plans.proofs.MadePlans.{made_is}
use Rattle.abs_plans.proofs.PlannedStates.{asked_at, in_normal, in_no_place}
use Rattle.abs_plans.proofs.planning.plan_normal.Goals as goal

pub returns-in-Some : goal.returns-in-Some
returns-in-Some g c =
    made_is _ _ c.plan_here.result
    (in_normal (program_of c.args.program.now) (typing_at c.args.typing.now) c.args.state.now c.args.frame.now
    (reverse c.args.below.now) c.in-Some.op.now c.in-Some.next
    (asked_at (insn_at c.args.program.now.methods) c.method.result c.pc.result c.args.frame.now.method c.args.frame.now.pc
    (Some (c.in-Some.op.now, c.in-Some.next)) c.method.ensures c.pc.ensures c.in-Some.ensures))
    c.plan_here.ensures

pub returns-in-None : goal.returns-in-None
returns-in-None g c =
    c.no_child.ensures
    ∙ in_no_place (program_of c.args.program.now) (typing_at c.args.typing.now) c.args.state.now c.args.frame.now
    (reverse c.args.below.now)
    (asked_at (insn_at c.args.program.now.methods) c.method.result c.pc.result c.args.frame.now.method c.args.frame.now.pc None
    c.method.ensures c.pc.ensures c.in-None.ensures)
