use Rattle.class_pool.proofs.PoolLaws.{pool_written}
use Rattle.class_pool.proofs.laws.written_is_spelled.Goals as goal

pub returns : goal.returns
returns c = pool_written
