use Rattle.std.proofs.Common.{arith}
use Rattle.class_pool.proofs.Growth.{slots_bounds}
use Rattle.class_pool.proofs.writing.write_pool.Goals as goal

pub count_of-requires : goal.count_of-requires
count_of-requires c = omega (arith, c.requires.count, slots_bounds c.args.entries.now)
