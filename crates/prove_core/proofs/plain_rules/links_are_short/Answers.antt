use Rattle.prove_core.proofs.ShortLinks.{links_are_short}
use Rattle.prove_core.proofs.plain_rules.links_are_short.Goals as goal

pub returns : goal.returns
returns c = links_are_short
