use Rattle.jvm_heaps.proofs.TermLaws.{acyclic_terms, typed_terms}
use Rattle.jvm_heaps.proofs.laws.acyclic_have_terms.Goals as goal

pub returns-clause-closed : goal.returns-clause-closed
returns-clause-closed c = acyclic_terms

pub returns-clause-typed : goal.returns-clause-typed
returns-clause-typed c = typed_terms
