use Rattle.graph_check.proofs.OneGraph.{one_verdict}
use Rattle.graph_check.proofs.laws.graphs_have_one_verdict.Goals as goal

pub returns : goal.returns
returns c = one_verdict
