use Rattle.graph_laws.proofs.Cuts.{tree_cut}
use Rattle.graph_laws.proofs.laws.trees_are_cut.Goals as goal

pub returns : goal.returns
returns c = λ nodes parent cuts tree targets node uncut. tree_cut nodes parent cuts tree targets node uncut
