use Rattle.std.proofs.Common.{◌≡◌, take, map}
use Rattle.std.specs.List.{flat_map}
use Rattle.class_asm.specs.asm_pool.Entries.{seen}
use Rattle.asm_lines.specs.Firsts.{with_faults}
use Rattle.class_asm.specs.asm_pool.Pools.{need_faults, firsts_in}
use Rattle.class_asm.proofs.asm_pool.listing_pool.firsts_of.Given as goal

abbrev pub invariant-loop-need : goal.invariant-loop-need
invariant-loop-need l = (l.firsts ≡ firsts_in (map (λ e. (seen e.0, e.1)) (take l.need-index l.needs)))
    × (l.first.fault ≡ with_faults l.fn.first.fault (flat_map need_faults (map (λ e. (seen e.0, e.1)) (take l.need-index l.needs))))
