use Rattle.std.proofs.Common.{◌≡◌, ◌++◌, ◌+◌, ◌*◌, ◌≤◌, drop, map}
use Rattle.class_asm.specs.asm_pool.Entries.{seen}
use Rattle.class_asm.specs.asm_pool.Pools.{numbers_from}
use Rattle.class_asm.proofs.asm_pool.pool.numbers_of.Given as goal

abbrev pub invariant-loop-need : goal.invariant-loop-need
invariant-loop-need l =
    (l.numbers ++ numbers_from l.next (map (λ e. seen e.0) (drop l.need-index l.needs)) ≡ numbers_from 1 (map (λ e. seen e.0) l.needs))
    × (l.next ≤ 1 + 2 * l.need-index)
