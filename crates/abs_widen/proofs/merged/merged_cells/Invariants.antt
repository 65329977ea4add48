use Rattle.std.proofs.Common.{◌≡◌, length}
use Rattle.jvm_values.specs.TypedHeaps.{world_types}
use Rattle.abs_widen.specs.Widening.{AreMergedCells}
use Rattle.abs_widen.proofs.merged.merged_cells.Given as goal

abbrev pub invariant-loop-n : goal.invariant-loop-n
invariant-loop-n g l = (length l.cells.items ≡ l.n)
    × AreMergedCells (world_types (g.T.Types.sub l.types) (g.T.Types.erase l.types) (g.T.Types.classes l.types)
    (g.T.Types.fields l.types) (g.T.Types.can_be_made l.types)) l.a l.b l.pairs l.cells.items
