use Rattle.steady_plans.proofs.SteadyForms.{plan_steady}
use Rattle.steady_plans.proofs.laws.plans_are_steady.Goals as goal

pub returns : goal.returns
returns c = plan_steady
