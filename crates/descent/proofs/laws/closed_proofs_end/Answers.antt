use Rattle.descent.proofs.Walked.{closed_ends}
use Rattle.descent.proofs.laws.closed_proofs_end.Goals as goal

pub returns : goal.returns
returns c = λ rules proof fit are e. closed_ends rules proof.steps fit are e
