use Rattle.cert_making.proofs.SameAsCheck.{what_is_accepted}
use Rattle.cert_making.proofs.migrate_call.laws.what_is_accepted_migrates.Goals as goal

pub returns : goal.returns
returns c = what_is_accepted
