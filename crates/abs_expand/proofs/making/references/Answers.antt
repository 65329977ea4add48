use Rattle.abs_cells.specs.IdSets.{has_id}
use Rattle.abs_expand.proofs.Changing.{refs_next, refs_all, each_low}
use Rattle.abs_expand.proofs.making.references.Goals as goal

pub put_reference-requires : goal.put_reference-requires
put_reference-requires c = each_low 0 c.args.cells.now c.loop-id.id-index c.loop-id-item.result c.requires c.loop-id-test.true
    c.loop-id-item.is

pub loop-id-preserved : goal.loop-id-preserved
loop-id-preserved c =
    λ n. refs_next 0 c.args.cells.now c.loop-id.id-index n c.loop-id-item.result (has_id c.loop-id.ids n)
    (has_id c.put_reference.new.ids n) c.requires c.loop-id-test.true c.loop-id-item.is
    (c.put_reference.ensures n) (c.loop-id.invariant n)

pub returns : goal.returns
returns c = λ n. refs_all c.args.cells.now c.loop-id.id-index n (has_id c.loop-id.ids n) c.loop-id-test.false (c.loop-id.invariant n)
