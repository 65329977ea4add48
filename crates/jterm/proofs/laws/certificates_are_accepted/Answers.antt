use Rattle.jterm.proofs.Proving.{certificate_accepted}
use Rattle.jterm.proofs.laws.certificates_are_accepted.Goals as goal

pub returns : goal.returns
returns c = certificate_accepted
