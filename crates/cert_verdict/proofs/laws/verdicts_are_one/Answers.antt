use Rattle.cert_verdict.proofs.VerdictLaw.{verdicts_one}
use Rattle.cert_verdict.proofs.laws.verdicts_are_one.Goals as goal

pub returns : goal.returns
returns c = verdicts_one
