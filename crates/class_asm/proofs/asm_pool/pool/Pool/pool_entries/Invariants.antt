use Rattle.std.proofs.Common.{◌≡◌, map, take}
use Rattle.std.specs.List.{AllByRecursion}
use Rattle.class_pool.specs.Entry.{HasText}
use Rattle.class_asm.specs.asm_pool.Entries.{seen}
use Rattle.class_asm.specs.asm_pool.Pools.{pool_entry}
use Rattle.class_asm.proofs.asm_pool.pool.Pool.pool_entries.Given as goal

abbrev pub invariant-loop-need : goal.invariant-loop-need
invariant-loop-need l =
    (l.entries ≡ map (pool_entry l.self) (map (λ e. seen e.0) (take l.need-index l.needs))) × AllByRecursion HasText l.entries
