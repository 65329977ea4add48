use Rattle.abs_cells.specs.Sound.{ids_of_frame}
use Rattle.abs_match.specs.inner.Forced.{AreFirstPut, frames_ask}
use Rattle.abs_match.proofs.forced.put_frames.Given as goal

abbrev pub invariant-loop-f : goal.invariant-loop-f
invariant-loop-f l = AreFirstPut (frames_ask l.theirs l.ours) ids_of_frame l.theirs l.f l.initial.todo.0 l.todo.0
