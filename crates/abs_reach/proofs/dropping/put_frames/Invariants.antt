use Rattle.std.proofs.Common.{◌≡◌, ℕ, ◌<◌, ◌||◌, drop}
use Rattle.std.specs.List.{list_any}
use Rattle.abs_cells.specs.IdSets.{has_id}
use Rattle.abs_reach.proofs.Dropped.{frame_has}
use Rattle.abs_reach.proofs.dropping.put_frames.Given as goal

abbrev pub invariant-loop-frame : goal.invariant-loop-frame
invariant-loop-frame l = (n : ℕ) → n < 2048
    → (has_id l.set n || list_any (frame_has n) (drop l.frame-index l.frames))
    ≡ (has_id l.initial.set n || list_any (frame_has n) l.frames)
