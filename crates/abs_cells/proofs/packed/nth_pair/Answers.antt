use Rattle.std.proofs.Common.{length, arith}
use Rattle.abs_cells.specs.PackedBits.{hit, pairs_in}
use Rattle.abs_cells.proofs.PackedLooks.{nth_found, nth_later}
use Rattle.abs_cells.proofs.packed.nth_pair.Goals as goal

pub returns-in-Ok : goal.returns-in-Ok
returns-in-Ok c =
    let p = c.args.packed.now in
    nth_found (hit p.slots.items p.words.items) (pairs_in p.slots.items p.words.items) c.args.n c.loop-a.a c.in-Ok.b
    (length p.slots.items) c.loop-a.left (omega (arith, c.loop-a-test.true, c.len-end.ensures, c.args.packed.now.slots.ok.0))
    c.loop-a.invariant c.in-Ok.ensures.found

pub loop-a-preserved : goal.loop-a-preserved
loop-a-preserved c =
    let p = c.args.packed.now in
    nth_later (hit p.slots.items p.words.items) (pairs_in p.slots.items p.words.items) c.args.n c.loop-a.a (length p.slots.items)
    c.loop-a.left c.in-Err.rest (omega (arith, c.loop-a-test.true, c.len-end.ensures, c.args.packed.now.slots.ok.0))
    c.loop-a.invariant c.in-Err.ensures.past
