use Rattle.std.proofs.Common.{◌≡◌, ◌+◌, ◌*◌, ◌≤◌, drop, map}
use Rattle.class_asm.specs.asm_pool.Entries.{seen}
use Rattle.asm_lines.specs.Firsts.{with_faults}
use Rattle.class_asm.specs.asm_pool.Pools.{count_faults}
use Rattle.class_asm.proofs.asm_pool.pool.check_count.Given as goal

abbrev pub invariant-loop-need : goal.invariant-loop-need
invariant-loop-need l =
    (with_faults l.first.fault (count_faults l.next (map (λ e. (seen e.0, e.1)) (drop l.need-index l.needs))) ≡ with_faults
    l.fn.first.fault (count_faults 1 (map (λ e. (seen e.0, e.1)) l.needs)))
    × (l.next ≤ 1 + 2 * l.need-index)
