use Rattle.std.proofs.Common.{◌∙◌}
use Rattle.abs_plans.proofs.Calling.{runs_method, lacks_method}
use Rattle.abs_plans.proofs.MadePlans.{made_is}
use Rattle.abs_plans.proofs.calls.invokes.Goals as goal

pub returns-in-Some : goal.returns-in-Some
returns-in-Some g c = made_is _ _ c.runs.result
    (runs_method c.args.spot.now c.args.count c.args.number c.in-Some.method.now c.in-Some.ensures) c.runs.ensures

pub returns-in-None : goal.returns-in-None
returns-in-None g c = c.no_child.ensures ∙ lacks_method c.args.spot.now c.args.count c.args.number c.in-None.ensures
