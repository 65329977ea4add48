use Rattle.std.proofs.Common.{◌∙◌, ◌∷◌, Some, None, reverse, sym}
use Rattle.class_program.specs.Views.{program_of}
use Rattle.abs_turns.specs.code_verify.Typings.{typing_at}
use Rattle.abs_plans.proofs.MadePlans.{made_is}
use Rattle.abs_plans.proofs.PlannedStates.{in_mode}
use Rattle.abs_plans.proofs.planning.plan_running.Goals as goal

pub returns-in-Some : goal.returns-in-Some
returns-in-Some g c =
    made_is _ _ c.plan_thrown.result
    (in_mode (program_of c.args.program.now) (typing_at c.args.typing.now) c.args.state.now
    (c.args.frame.now ∷ reverse c.args.below.now) (Some c.in-Some.x) c.args.state.now.throwing (sym c.in-Some.ensures))
    (c.plan_thrown.ensures (typing_at c.args.typing.now))

pub returns-in-None : goal.returns-in-None
returns-in-None g c =
    made_is _ _ c.plan_normal.result
    (in_mode (program_of c.args.program.now) (typing_at c.args.typing.now) c.args.state.now
    (c.args.frame.now ∷ reverse c.args.below.now) None c.args.state.now.throwing (sym c.in-None.ensures))
    c.plan_normal.ensures
