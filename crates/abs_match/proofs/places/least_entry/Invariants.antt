use Rattle.std.proofs.Common.{◌≡◌, Some, slice_get}
use Rattle.abs_match.specs.inner.Matching.{IsLeastOf, FirstMeet, HasImage}
use Rattle.abs_match.proofs.places.least_entry.Given as goal

abbrev pub invariant-loop-n : goal.invariant-loop-n
invariant-loop-n l = IsLeastOf (FirstMeet (λ n id. slice_get l.theirs n ≡ Some id → HasImage l.entries id (slice_get l.ours n)) l.n)
    l.least
