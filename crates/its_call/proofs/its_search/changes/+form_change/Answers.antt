use Rattle.its_call.proofs.Plain.{first_unit}
use Rattle.its_call.proofs.its_search.changes.+form_change.Goals as goal

-- src/changes.rt:102:13
pub change_of-requires-clause-one : goal.change_of-requires-clause-one
change_of-requires-clause-one t c =
    (first_unit c.args.count c.args.form.now c.in-Some.rest.now c.in-Some.term.now c.in-Some.ensures.cases.0 c.requires.units).0

-- src/changes.rt:100:31
pub added-requires-clause-unit : goal.added-requires-clause-unit
added-requires-clause-unit t c =
    (first_unit c.args.count c.args.form.now c.in-Some.rest.now c.in-Some.term.now c.in-Some.ensures.cases.0 c.requires.units).1
