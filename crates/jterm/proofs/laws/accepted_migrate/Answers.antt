use Rattle.jterm.proofs.Migrating.{accepted_migrate}
use Rattle.jterm.proofs.laws.accepted_migrate.Goals as goal

pub returns : goal.returns
returns c = accepted_migrate c.what_is_accepted_migrates.ensures
