use Rattle.prove_core.proofs.Plain.{path_rules_are_plain}
use Rattle.prove_core.proofs.plain_rules.path_rules_are_plain.Goals as goal

pub returns : goal.returns
returns c = path_rules_are_plain
