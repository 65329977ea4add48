use Rattle.std.proofs.Common.{reverse}
use Rattle.abs_plans.proofs.Calling.{returns_from_all, returns_to}
use Rattle.abs_plans.proofs.calls.returned_to.Goals as goal

pub returns-in-Some : goal.returns-in-Some
returns-in-Some g c = returns_to c.args.spot.now c.args.value c.args.spot.now.below (reverse c.in-Some.below.now)
    c.in-Some.caller.now c.goes_on_after.result c.in-Some.ensures c.goes_on_after.ensures

pub returns-in-None : goal.returns-in-None
returns-in-None g c = returns_from_all c.args.spot.now c.args.value c.args.spot.now.below c.in-None.ensures
