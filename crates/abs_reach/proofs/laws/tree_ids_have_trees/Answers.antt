use Rattle.abs_reach.proofs.Sound.{tree}
use Rattle.abs_reach.proofs.laws.tree_ids_have_trees.Goals as goal

pub returns : goal.returns
returns c = tree
