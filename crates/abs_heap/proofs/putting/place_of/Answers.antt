use Rattle.std.proofs.Common.{◌<◌, ◌≤◌, ℕ, subst}
use Rattle.abs_cells.specs.declared.cells.Cell.{Cell}
use Rattle.abs_heap.proofs.Placing.{gone_by, found_place, at_the_end}
use Rattle.abs_heap.proofs.putting.place_of.Goals as goal

pub loop-place-preserved : goal.loop-place-preserved
loop-place-preserved c = gone_by c.args.id c.args.cells.now c.loop-place.place c.index-cells-place.result c.loop-place-test.true
    (subst (λ (x : ℕ × Cell). x.0 < c.args.id) c.index-cells-place.is c.if-other-id.false) c.loop-place.invariant

pub returns-then-other-id : goal.returns-then-other-id
returns-then-other-id c = found_place c.args.id c.args.cells.now c.loop-place.place c.index-cells-place.result
    c.loop-place-test.true (subst (λ (x : ℕ × Cell). c.args.id ≤ x.0) c.index-cells-place.is c.if-other-id.true) c.loop-place.invariant

pub returns : goal.returns
returns c = at_the_end c.args.id c.args.cells.now c.loop-place.place c.loop-place-test.false c.loop-place.auto.place-end
    c.loop-place.invariant
