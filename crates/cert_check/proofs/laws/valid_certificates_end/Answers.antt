use Rattle.cert_check.proofs.Showing.{valid_runs_end}
use Rattle.cert_check.proofs.laws.valid_certificates_end.Goals as goal

pub returns : goal.returns
returns c = valid_runs_end c.valid_is_certified.ensures c.certified_runs_end.ensures
