use Rattle.class_pool.proofs.PoolLaws.{texts_from_pool}
use Rattle.class_pool.proofs.laws.pool_has_texts.Goals as goal

pub returns : goal.returns
returns c = λ entries pool. record { each = texts_from_pool entries pool.fit; count = pool.count }
