use Rattle.class_world.specs.Worlds.{classes_of}
use Rattle.class_program.specs.Methods.{range_of, table_of}
use Rattle.class_program.proofs.Saying.{answered, fault_of_item}
use Rattle.list_views.proofs.Steps.{each_all, each_so_far}
use Rattle.class_program.proofs.method.table_of.Goals as goal

pub returns-in_err-range_of : goal.returns-in_err-range_of
unfolding table_of
returns-in_err-range_of c =
    answered _ _ _ _ c.from_residual-in_err-range_of.ensures.1
    (fault_of_item (range_of (classes_of c.args.world.now) c.args.pool.now) c.args.table.now c.loop-entry.entry-index _
    c.loop-entry.ranges _ c.loop-entry-test.true c.loop-entry.invariant c.in_err-range_of.ensures)

pub loop-entry-preserved : goal.loop-entry-preserved
loop-entry-preserved c =
    each_so_far (range_of (classes_of c.args.world.now) c.args.pool.now) c.args.table.now c.loop-entry.entry-index _
    c.loop-entry.ranges _ _ c.loop-entry-test.true c.loop-entry.invariant c.in_ok-range_of.ensures c.in_ok-push.ensures.items

pub returns : goal.returns
unfolding table_of
returns c = each_all (range_of (classes_of c.args.world.now) c.args.pool.now) c.args.table.now c.loop-entry.entry-index
    c.loop-entry.ranges c.loop-entry-test.false c.loop-entry.invariant
