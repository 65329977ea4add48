use Rattle.abs_cells.specs.IdSets.{has_id}
use Rattle.abs_heap.proofs.FieldPairs.{references_none, references_next, references_all}
use Rattle.abs_heap.proofs.instances.put_references.Goals as goal

pub loop-place-init : goal.loop-place-init
loop-place-init c n = references_none c.args.slots.now c.args.ids.now n (has_id c.args.set.now n)

pub loop-place-preserved : goal.loop-place-preserved
loop-place-preserved c n = references_next c.args.slots.now c.args.ids.now c.loop-place.place _ _ n _ (has_id c.args.set.now n)
    (has_id c.loop-place.set n) (has_id c.put_if.new.ids n) c.loop-place-test.true c.requires.count c.is_reference.ensures
    (c.put_if.ensures n) (c.loop-place.invariant n)

pub returns : goal.returns
returns c n = references_all c.args.slots.now c.args.ids.now c.loop-place.place n (has_id c.args.set.now n)
    (has_id c.loop-place.set n) c.loop-place-test.false (c.loop-place.invariant n)
