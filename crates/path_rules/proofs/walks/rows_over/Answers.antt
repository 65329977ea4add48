use Rattle.std.proofs.Common.{◌∙◌, ◌++◌, List, ap}
use Rattle.lin_core.specs.declared.rows.WRow.{WRow}
use Rattle.path_rules.specs.Rules.{rows_of_stop}
use Rattle.path_rules.proofs.walks.rows_over.Goals as goal

pub push_leg-requires-clause-small : goal.push_leg-requires-clause-small
push_leg-requires-clause-small g c = c.requires.small

pub push_leg-requires-clause-keyed : goal.push_leg-requires-clause-keyed
push_leg-requires-clause-keyed g c = c.requires.keyed

pub push_leg-requires-clause-here : goal.push_leg-requires-clause-here
push_leg-requires-clause-here g c = c.requires.here.rising

pub push_leg-requires-clause-there : goal.push_leg-requires-clause-there
push_leg-requires-clause-there g c = c.requires.there.rising

pub returns-clause-rows : goal.returns-clause-rows
returns-clause-rows g c leg is = c.in_ok-push_stop.ensures.rows
    ∙ ap (λ (r : List WRow). r ++ rows_of_stop c.args.after.now.first c.args.after.now.node.state) (c.in_ok-push_leg.ensures leg is)

pub returns-clause-bounded : goal.returns-clause-bounded
returns-clause-bounded g c = c.in_ok-push_stop.ensures.bounded
