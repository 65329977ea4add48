use Rattle.std.proofs.Common.{drop}
use Rattle.abs_widen.specs.Visits.{frames_pairs}
use Rattle.abs_widen.specs.inner.Visiting.{IsWithRest}
use Rattle.abs_widen.proofs.positions.visit_frames.Given as goal

abbrev pub invariant-loop-n : goal.invariant-loop-n
invariant-loop-n g l = IsWithRest l.a l.b l.initial.met.items (frames_pairs l.a l.b l.frames l.others) l.met.items
    (frames_pairs l.a l.b (drop l.n l.frames) (drop l.n l.others))
