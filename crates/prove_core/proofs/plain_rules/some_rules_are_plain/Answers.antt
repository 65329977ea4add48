use Rattle.prove_core.proofs.Plain.{some_rules_are_plain}
use Rattle.prove_core.proofs.plain_rules.some_rules_are_plain.Goals as goal

pub returns : goal.returns
returns c = some_rules_are_plain
