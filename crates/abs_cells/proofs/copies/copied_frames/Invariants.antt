use Rattle.std.proofs.Common.{◌≡◌, take}
use Rattle.abs_cells.proofs.copies.copied_frames.Given as goal

abbrev pub invariant-loop-frame : goal.invariant-loop-frame
invariant-loop-frame l = l.copy ≡ take l.frame-index l.frames
