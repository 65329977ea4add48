use Rattle.std.proofs.Common.{drop}
use Rattle.abs_widen.specs.Visits.{local_pairs}
use Rattle.abs_widen.specs.inner.Visiting.{IsWithRest}
use Rattle.abs_widen.proofs.positions.visit_locals.Given as goal

abbrev pub invariant-loop-n : goal.invariant-loop-n
invariant-loop-n g l = IsWithRest l.a l.b l.initial.met.items (local_pairs l.a l.b l.locals l.others) l.met.items
    (local_pairs l.a l.b (drop l.n l.locals) (drop l.n l.others))
