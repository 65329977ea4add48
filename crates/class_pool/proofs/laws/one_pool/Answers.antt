use Rattle.class_pool.proofs.PoolLaws.{pool_one}
use Rattle.class_pool.proofs.laws.one_pool.Goals as goal

pub returns : goal.returns
returns c = λ from entries others rest end. pool_one from entries others rest end
