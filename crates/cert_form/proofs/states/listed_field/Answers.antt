use Rattle.cert_form.proofs.RisingPairs.{listed_rises}
use Rattle.cert_form.proofs.states.listed_field.Goals as goal

pub returns-clause-rising : goal.returns-clause-rising
returns-clause-rising c = listed_rises c.list.result _ c.list.ensures
