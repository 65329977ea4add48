use Rattle.std.proofs.Common.{arith}
use Rattle.class_pool.proofs.Outcome.{is_found, is_only}
use Rattle.class_pool.proofs.pool.Pool.read.Goals as goal

pub returns-clause-found : goal.returns-clause-found
returns-clause-found c = is_found c.args.bytes.now c.args.from c.read_at.result (λ i. omega (arith, c.type_inv.bytes i)) c.read_at.ensures

pub returns-clause-only : goal.returns-clause-only
returns-clause-only c = λ entries rest spelled. is_only c.args.bytes.now c.args.from entries rest c.read_at.result c.read_at.ensures
    spelled
