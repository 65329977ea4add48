use Rattle.std.proofs.Common.{reverse}
use Rattle.abs_plans.proofs.Calling.{goes_on_there, goes_nowhere}
use Rattle.abs_plans.proofs.MadePlans.{made_is}
use Rattle.abs_plans.proofs.calls.goes_on_after.Goals as goal

pub returns-in-Some : goal.returns-in-Some
returns-in-Some g c = made_is _ _ c.goes_on_at.result
    (goes_on_there c.args.spot.now c.args.value (reverse c.args.below.now) c.args.caller.now c.next_place.result c.in-Some.place
    c.next_place.ensures c.in-Some.is) c.goes_on_at.ensures

pub returns-in-None : goal.returns-in-None
returns-in-None g c = made_is _ _ c.step_if.result
    (goes_nowhere c.args.spot.now c.args.value (reverse c.args.below.now) c.args.caller.now c.next_place.result c.next_place.ensures
    c.in-None.is) c.step_if.ensures
