use Rattle.abs_match.specs.inner.Matching.{FirstSame}
use Rattle.abs_match.proofs.maps.has_keys.Given as goal

abbrev pub invariant-loop-place : goal.invariant-loop-place
invariant-loop-place l = FirstSame (λ entry. entry.0) (λ c. c.0) l.entries l.cells l.place
