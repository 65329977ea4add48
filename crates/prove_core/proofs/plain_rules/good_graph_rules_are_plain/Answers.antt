use Rattle.prove_core.proofs.Good.{good_graph_rules_are_plain}
use Rattle.prove_core.proofs.plain_rules.good_graph_rules_are_plain.Goals as goal

pub returns : goal.returns
returns c = good_graph_rules_are_plain
