use Rattle.abs_match.specs.inner.Matching.{IsLeastOf, FirstMeet, EntryMeets}
use Rattle.abs_match.proofs.maps.least_unmapped.Given as goal

abbrev pub invariant-loop-id : goal.invariant-loop-id
invariant-loop-id l = IsLeastOf (FirstMeet (EntryMeets l.cells l.entries) l.id-index) l.least
