use Rattle.cert_check.proofs.Showing.{shows}
use Rattle.cert_check.proofs.laws.valid_is_certified.Goals as goal

pub returns : goal.returns
returns c = shows c.closed_proofs_end.ensures c.links_fit.ensures c.rules_fit.ensures
