use Rattle.graph_fill.proofs.Once.{good_fills}
use Rattle.graph_fill.proofs.laws.good_graphs_fill_themselves.Goals as goal

pub returns : goal.returns
returns c = good_fills
