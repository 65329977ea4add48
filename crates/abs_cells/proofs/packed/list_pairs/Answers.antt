use Rattle.std.proofs.Common.{arith, length}
use Rattle.abs_cells.specs.PackedBits.{hit, pairs_in}
use Rattle.abs_cells.proofs.PackedLooks.{rows_listed}
use Rattle.abs_cells.proofs.packed.list_pairs.Goals as goal

pub loop-a-preserved : goal.loop-a-preserved
loop-a-preserved c =
    let p = c.args.packed.now in
    rows_listed (hit p.slots.items p.words.items) c.loop-a.a (length p.slots.items) c.loop-a.list.items c.list_row.new.list.items
    (pairs_in p.slots.items p.words.items) (omega (arith, c.loop-a-test.true, c.len-end.ensures, c.args.packed.now.slots.ok.0))
    c.loop-a.invariant c.in_ok-list_row.ensures
