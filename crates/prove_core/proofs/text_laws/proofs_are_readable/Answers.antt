use Rattle.prove_core.proofs.Steps as proofs
use Rattle.prove_core.proofs.text_laws.proofs_are_readable.Goals as goal

pub returns : goal.returns
returns c = proofs.proofs_are_readable
