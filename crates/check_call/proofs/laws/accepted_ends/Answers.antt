use Rattle.check_call.proofs.Accepted.{accepted_ends}
use Rattle.check_call.proofs.laws.accepted_ends.Goals as goal

pub returns : goal.returns
returns c = accepted_ends c.valid_certificates_end.ensures
