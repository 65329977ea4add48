use Rattle.prove_core.proofs.States as proofs
use Rattle.prove_core.proofs.text_laws.good_graphs_are_readable.Goals as goal

pub returns : goal.returns
returns c = proofs.good_graphs_are_readable
