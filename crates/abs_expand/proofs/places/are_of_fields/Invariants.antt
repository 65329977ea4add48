use Rattle.std.proofs.Common.{◌≡◌, drop}
use Rattle.abs_expand.specs.inner.PlaceTests.{are_of_fields}
use Rattle.abs_expand.proofs.places.are_of_fields.Given as goal

abbrev pub invariant-loop-n : goal.invariant-loop-n
invariant-loop-n l = are_of_fields l.cells (drop l.n l.statics) (drop l.n l.locals) ≡ are_of_fields l.cells l.statics l.locals
