use Rattle.graph_fill.proofs.Once.{filled_once}
use Rattle.graph_fill.proofs.laws.filled_graphs_are_one.Goals as goal

pub returns : goal.returns
returns c = filled_once
