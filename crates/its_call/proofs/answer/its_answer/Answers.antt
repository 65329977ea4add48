use Rattle.std.proofs.Common.{List, subst}
use Rattle.descent.specs.declared.rules.PathRule.{PathRule}
use Rattle.its_call.specs.its_search.Found.{Finds}
use Rattle.its_call.proofs.Ending.{ends}
use Rattle.its_call.proofs.answer.its_answer.Goals as goal

-- src/answer.rt:50:1
pub returns-clause-headline : goal.returns-clause-headline
returns-clause-headline c = ends c.args.text.now c.in_ok-its.its c.in_ok-found.found c.in_ok-told.field-0
    c.closed_proofs_end.ensures c.chains_end_steps.ensures c.steps_end_walks.ensures c.in_ok-its.ensures.answer
    c.in_ok-its.ensures.system (subst (λ (rules : List PathRule). Finds rules c.in_ok-found.found) c.as_slice.ensures
    c.in_ok-found.ensures) c.in_ok-told.ensures
