use Rattle.std.proofs.Common.{subst}
use Rattle.abs_cells.specs.PairLists.{IsRising}
use Rattle.abs_cells.proofs.PackedLaws.{packed_rises}
use Rattle.abs_cells.proofs.packed.PackedPairsPairs.nth.Goals as goal

pub returns-clause-rising : goal.returns-clause-rising
returns-clause-rising c = subst IsRising c.self.view_is
    (packed_rises c.self.inside.packed.slots.items c.self.inside.packed.count c.self.inside.packed.words.items c.self.invariant)
