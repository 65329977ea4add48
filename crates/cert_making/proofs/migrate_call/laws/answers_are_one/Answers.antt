use Rattle.cert_making.proofs.MigrateOneAnswer.{answers_one}
use Rattle.cert_making.proofs.migrate_call.laws.answers_are_one.Goals as goal

pub returns : goal.returns
returns c = answers_one
