use Rattle.abs_turns.specs.class_world.WorldTypes.{types_of}
use Rattle.class_program.specs.Views.{program_of}
use Rattle.abs_turns.specs.code_verify.Typings.{typing_at}
use Rattle.abs_plans.proofs.GoodPlans.{plan_is_good}
use Rattle.abs_plans.proofs.MadePlans.{good_is}
use Rattle.abs_plans.proofs.planning.plan.Goals as goal

pub returns-clause-good : goal.returns-clause-good
returns-clause-good g c = good_is (types_of (program_of c.args.program.now).world) c.args.state.now _ c.plan_in_frames.result
    (plan_is_good (program_of c.args.program.now) (typing_at c.args.typing.now) c.args.state.now c.is_good.ensures.good c.requires)
    c.plan_in_frames.ensures
