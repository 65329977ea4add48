use Rattle.std.proofs.Common.{arith}
use Rattle.class_pool.proofs.Growth.{count_bound, slots_bounds}
use Rattle.class_pool.proofs.writing.count_of.Goals as goal
use Rattle.class_pool.proofs.writing.count_of.Goals.{then-is_wide, else-is_wide}

pub overflow_add-count : goal.overflow_add-count
overflow_add-count c =
    let bound = count_bound c.args.entries.now c.loop-entry.entry-index in
    let all = slots_bounds c.args.entries.now in
    elim c.if-is_wide.branch [
      | then-is_wide w ↦ omega (arith, bound, all, c.requires, w.count-is)
      | else-is_wide w ↦ omega (arith, bound, all, c.requires, w.count-is)
    ]
