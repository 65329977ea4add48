use Rattle.desc_steps.proofs.NamedOnce.{named_once}
use Rattle.desc_steps.proofs.laws.names_one.Goals as goal

pub returns : goal.returns
returns c = named_once
