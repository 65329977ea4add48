use Rattle.its_call.proofs.Asked.{linear_found}
use Rattle.its_call.proofs.Trying.{none_plain}
use Rattle.its_call.proofs.its_search.system_forms.SystemFormsForms.step.Goals as goal

pub returns-in-None : goal.returns-in-None
returns-in-None c = linear_found c.args.rules.now c.linear.result
    (none_plain c.count_of-count.result c.args.rules.now c.in_ok-form.field-0 c.in-None.is c.in_ok-form.ensures
    c.count_of-count.ensures) c.linear.ensures.found c.linear.ensures.none
