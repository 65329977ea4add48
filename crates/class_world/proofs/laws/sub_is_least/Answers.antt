use Rattle.class_world.proofs.Least.{least}
use Rattle.class_world.proofs.laws.sub_is_least.Goals as goal

pub returns : goal.returns
returns c = λ world linked a b. least world linked a b
