use Rattle.std.proofs.Common.{◌≡◌, Some}
use Rattle.abs_match.specs.inner.Matching.{IsLeastOf, FirstMeet, HasImage, local_at}
use Rattle.abs_match.proofs.places.least_local.Given as goal

abbrev pub invariant-loop-n : goal.invariant-loop-n
invariant-loop-n l = IsLeastOf (FirstMeet (λ n id. local_at l.theirs n ≡ Some id → HasImage l.entries id (local_at l.ours n)) l.n) l.least
