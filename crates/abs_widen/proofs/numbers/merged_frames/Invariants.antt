use Rattle.std.proofs.Common.{◌≡◌, ◌++◌, drop, map, zip}
use Rattle.abs_widen.specs.Widening.{merged_frame, merged_frames}
use Rattle.abs_widen.proofs.numbers.merged_frames.Given as goal

abbrev pub invariant-loop-n : goal.invariant-loop-n
invariant-loop-n g l = l.merged.items ++ map (λ both. merged_frame l.a l.b l.pairs both.0 both.1)
    (zip (drop l.n l.frames) (drop l.n l.others)) ≡ merged_frames l.a l.b l.pairs l.frames l.others
