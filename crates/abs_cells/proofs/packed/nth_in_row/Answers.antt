use Rattle.std.proofs.Common.{Bool, ◌+◌, cond, sym, ap, ◌∙◌, length, arith}
use Rattle.abs_cells.specs.PackedBits.{hit}
use Rattle.abs_cells.specs.inner.PackedRows.{whole_row}
use Rattle.abs_cells.proofs.PackedLooks.{row_found, row_goes_on}
use Rattle.abs_cells.proofs.packed.nth_in_row.Goals as goal

pub returns-in-None-clause-found : goal.returns-in-None-clause-found
returns-in-None-clause-found c =
    let p = c.args.packed.now in
    row_found (whole_row p.slots.items p.words.items c.args.a) c.args.n (hit p.slots.items p.words.items c.args.a) c.args.a
    c.loop-b.b (length p.slots.items) c.loop-b.left
    (omega (arith, c.loop-b-test.true, c.len-end.ensures, c.args.packed.now.slots.ok.0)) c.loop-b.invariant
    (sym c.is_hit.ensures ∙ c.in-None.ensures.none.0) c.in-None.ensures.none.1

pub loop-b-preserved : goal.loop-b-preserved
loop-b-preserved c =
    let p = c.args.packed.now in
    row_goes_on (whole_row p.slots.items p.words.items c.args.a) c.args.n (hit p.slots.items p.words.items c.args.a) c.args.a
    c.loop-b.b (length p.slots.items) c.loop-b.left c.in-Some.rest
    (omega (arith, c.loop-b-test.true, c.len-end.ensures, c.args.packed.now.slots.ok.0)) c.loop-b.invariant
    (c.in-Some.ensures.some ∙ ap (λ (t : Bool). c.in-Some.rest + cond t 1 0) c.is_hit.ensures)
