use Rattle.class_base.proofs.MethodLaws.{read_exactly}
use Rattle.class_base.proofs.methods.method_type.Goals as goal

pub returns-clause-exact : goal.returns-clause-exact
returns-clause-exact c = read_exactly _ _ c.whole_method.ensures
