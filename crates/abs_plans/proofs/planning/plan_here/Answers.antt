use Rattle.std.proofs.Common.{◌∙◌, reverse, sym}
use Rattle.class_program.specs.Views.{program_of}
use Rattle.abs_turns.specs.code_verify.Typings.{typing_at}
use Rattle.abs_turns.specs.op_forms.Forms.{form_of, form_seen}
use Rattle.abs_plans.proofs.MadePlans.{made_is}
use Rattle.abs_plans.proofs.PlannedStates.{with_form, without_form}
use Rattle.abs_plans.proofs.planning.plan_here.Goals as goal

pub returns-in-Some : goal.returns-in-Some
returns-in-Some g c =
    made_is _ _ c.plan_typed.result
    (with_form (program_of c.args.program.now) (typing_at c.args.typing.now) c.args.state.now c.args.frame.now
    (reverse c.args.below.now) (form_of c.args.op.now) c.args.next
    (typing_at c.args.typing.now c.args.frame.now.method c.args.frame.now.pc) (form_seen c.in-Some.form) (sym c.in-Some.ensures))
    c.plan_typed.ensures

pub returns-in-None : goal.returns-in-None
returns-in-None g c = c.no_child.ensures ∙ without_form (program_of c.args.program.now) (typing_at c.args.typing.now)
    c.args.state.now c.args.frame.now (reverse c.args.below.now) (form_of c.args.op.now) c.args.next
    (typing_at c.args.typing.now c.args.frame.now.method c.args.frame.now.pc) (sym c.in-None.ensures)
