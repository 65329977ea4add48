use Rattle.std.proofs.Common.{drop, zip}
use Rattle.abs_widen.specs.inner.Visiting.{IsWithRest}
use Rattle.abs_widen.proofs.positions.visit_entries.Given as goal

abbrev pub invariant-loop-n : goal.invariant-loop-n
invariant-loop-n g l = IsWithRest l.a l.b l.initial.met.items (zip l.ids l.others) l.met.items (zip (drop l.n l.ids) (drop l.n l.others))
