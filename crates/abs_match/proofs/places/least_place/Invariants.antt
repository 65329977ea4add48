use Rattle.abs_match.specs.inner.Matching.{IsLeastOf, FirstMeet, FramesMeet}
use Rattle.abs_match.proofs.places.least_place.Given as goal

abbrev pub invariant-loop-f : goal.invariant-loop-f
invariant-loop-f l = IsLeastOf (FirstMeet (FramesMeet l.entries l.theirs l.ours) l.f) l.least
