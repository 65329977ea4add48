use Rattle.std.proofs.Common.{◌≡◌, true, take}
use Rattle.std.specs.List.{list_all}
use Rattle.abs_cells.specs.IdSets.{has_id}
use Rattle.abs_cells.specs.Sound.{ids_of_frame}
use Rattle.abs_cells.proofs.checks.has_frames.Given as goal

abbrev pub invariant-loop-frame : goal.invariant-loop-frame
invariant-loop-frame l = list_all (λ frame. list_all (has_id l.set) (ids_of_frame frame)) (take l.frame-index l.frames) ≡ true
