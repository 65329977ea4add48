use Rattle.class_pool.proofs.PoolLaws.{pool_found, pool_again}
use Rattle.class_pool.proofs.laws.read_is_spelled.Goals as goal

pub returns-clause-found : goal.returns-clause-found
returns-clause-found c = λ from entries rest. pool_found from entries rest

pub returns-clause-only : goal.returns-clause-only
returns-clause-only c = λ from entries rest. pool_again from entries rest
