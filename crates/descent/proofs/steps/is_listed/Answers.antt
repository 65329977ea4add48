use Rattle.std.proofs.Common.{◌∙◌, ap, sym, Some}
use Rattle.descent.specs.declared.faults.DescentFault.TheVariants.{NotCovered}
use Rattle.descent.specs.Steps.{listed_fault}
use Rattle.descent.proofs.Checked.{none_listed, over_at}
use Rattle.descent.proofs.Ranked.{rule_fits}
use Rattle.descent.proofs.steps.is_listed.Goals as goal

pub is_as_listed-requires-clause-rule : goal.is_as_listed-requires-clause-rule
is_as_listed-requires-clause-rule g c = rule_fits c.args.rules.now c.args.number c.in-Some.rule.now c.requires.rules c.in-Some.ensures

pub is_as_listed-requires-clause-room : goal.is_as_listed-requires-clause-room
is_as_listed-requires-clause-room g c = over_at _ c.args.rules.now c.args.number c.in-Some.rule.now c.requires.room c.in-Some.ensures

pub returns-in-Some-clause-fault : goal.returns-in-Some-clause-fault
returns-in-Some-clause-fault g c = c.is_as_listed.ensures.fault
    ∙ ap (λ o. listed_fault (g.O.Order.weak_says c.args.order.now) (g.O.Order.strict_says c.args.order.now)
    (g.O.Order.bounded_says c.args.order.now) c.args.listed.now o) (sym c.in-Some.ensures)

pub returns-in-None-clause-fault : goal.returns-in-None-clause-fault
returns-in-None-clause-fault g c = ap (λ r. Some (NotCovered r)) c.rule_of.ensures
    ∙ none_listed (g.O.Order.weak_says c.args.order.now) (g.O.Order.strict_says c.args.order.now)
    (g.O.Order.bounded_says c.args.order.now) c.args.listed.now
    ∙ ap (λ o. listed_fault (g.O.Order.weak_says c.args.order.now) (g.O.Order.strict_says c.args.order.now)
    (g.O.Order.bounded_says c.args.order.now) c.args.listed.now o) (sym c.in-None.ensures)
