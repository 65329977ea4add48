use Rattle.class_pool.proofs.PoolLaws.{same_pool}
use Rattle.class_pool.proofs.laws.entries_of_text.Goals as goal

pub returns : goal.returns
returns c = λ at entries others rest end. same_pool at entries others rest end
