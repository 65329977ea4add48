use Rattle.std.proofs.Common.{ℕ, ◌<◌, slice_index_or}
use Rattle.jvm_values.specs.TypedHeaps.{world_types}
use Rattle.abs_cells.specs.declared.cells.Cell.{Cell}
use Rattle.abs_cells.specs.Sound.{IsSoundCell}
use Rattle.abs_reach.proofs.abs_sound.sound.are_sound_cells.Given as goal

abbrev pub invariant-loop-item : goal.invariant-loop-item
invariant-loop-item g l = (k : ℕ) (d : ℕ × Cell) → k < l.item-index
    → IsSoundCell (world_types (g.T.Types.sub l.types) (g.T.Types.erase l.types) (g.T.Types.classes l.types)
    (g.T.Types.fields l.types) (g.T.Types.can_be_made l.types)) l.state (slice_index_or l.cells k d).1
