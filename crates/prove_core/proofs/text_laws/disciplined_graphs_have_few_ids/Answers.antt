use Rattle.prove_core.proofs.NodeCounts as proofs
use Rattle.prove_core.proofs.text_laws.disciplined_graphs_have_few_ids.Goals as goal

pub returns : goal.returns
returns c = proofs.few_ids
