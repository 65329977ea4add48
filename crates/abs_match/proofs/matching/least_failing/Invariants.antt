use Rattle.abs_reach.specs.Instances.{Meets}
use Rattle.abs_match.specs.inner.Matching.{IsLeastOf, FirstMeet, CellMeets, clause_of}
use Rattle.abs_match.proofs.matching.least_failing.Given as goal

abbrev pub invariant-loop-id : goal.invariant-loop-id
invariant-loop-id g l = IsLeastOf
    (FirstMeet (CellMeets (Meets (g.T.Types.sub l.types) l.state l.target l.entries (clause_of l.clause)) l.target.cells)
    l.id-index) l.least
