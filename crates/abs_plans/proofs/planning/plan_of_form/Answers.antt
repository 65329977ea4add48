use Rattle.abs_turns.specs.op_forms.Forms.{form_seen}
use Rattle.abs_turns.specs.PlansSeen.{plan_seen}
use Rattle.abs_plans.proofs.MadePlans.{made_is, form_stops, form_goes_on}
use Rattle.abs_plans.proofs.planning.plan_of_form.Goals as goal

pub returns-in-Some : goal.returns-in-Some
returns-in-Some g c = form_stops c.args.spot.now (form_seen c.args.form.now) c.taken_by.result c.in_ok-stack.stack.0
    (plan_seen c.in-Some.stop) c.taken_by.ensures c.in_ok-stack.ensures c.in-Some.ensures

pub returns-in-None : goal.returns-in-None
returns-in-None g c = made_is _ _ c.row.result
    (form_goes_on c.args.spot.now (form_seen c.args.form.now) c.taken_by.result c.in_ok-stack.stack.0 c.taken_by.ensures
    c.in_ok-stack.ensures c.in-None.ensures) c.row.ensures
