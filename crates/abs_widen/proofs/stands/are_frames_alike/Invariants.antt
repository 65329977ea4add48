use Rattle.std.proofs.Common.{◌<◌, ℕ, get_or}
use Rattle.abs_cells.specs.AbstractStates.{AbstractFrame}
use Rattle.abs_widen.specs.Widening.{AreFramesAlike}
use Rattle.abs_widen.proofs.stands.are_frames_alike.Given as goal

abbrev pub invariant-loop-n : goal.invariant-loop-n
invariant-loop-n g l = (k : ℕ) (d e : AbstractFrame) → k < l.n → AreFramesAlike l.a l.b (get_or l.frames k d) (get_or l.others k e)
