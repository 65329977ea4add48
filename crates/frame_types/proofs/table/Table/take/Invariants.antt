use Rattle.std.proofs.Common.{◌≡◌, ℕ, ◌<◌, ◌-◌, length, false}
use Rattle.frame_types.specs.Growth.{waits}
use Rattle.frame_types.proofs.table.Table.take.Given as goal

abbrev pub invariant-loop-self : goal.invariant-loop-self
invariant-loop-self l = (l.self ≡ record l.fn.self { low = l.self.low })
    × ((place : ℕ) → place < l.self.low → waits l.self.waiting place ≡ false)

abbrev pub decreases-loop-self : goal.decreases-loop-self
decreases-loop-self l = length l.self.waiting - l.self.low
