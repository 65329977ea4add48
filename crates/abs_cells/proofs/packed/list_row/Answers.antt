use Rattle.std.proofs.Common.{arith, ℕ, List, Option, ◌++◌, length, sym, ◌∙◌, ap}
use Rattle.abs_cells.specs.PackedBits.{slot_of, hit}
use Rattle.abs_cells.specs.inner.PackedRows.{whole_row}
use Rattle.abs_cells.proofs.PackedLooks.{nothing_listed, row_listed}
use Rattle.abs_cells.proofs.packed.list_row.Goals as goal

pub returns-then-not-has_slot : goal.returns-then-not-has_slot
returns-then-not-has_slot c =
    let p = c.args.packed.now in
    nothing_listed p.slots.items p.words.items c.args.a c.args.list.now.items
    (ap (λ (xs : List (Option ℕ)). slot_of xs c.args.a) (sym c.deref.ensures.value) ∙ c.has_slot.ensures c.if-not-has_slot.true)

pub loop-b-preserved : goal.loop-b-preserved
loop-b-preserved c =
    let p = c.args.packed.now in
    row_listed (hit p.slots.items p.words.items c.args.a) c.args.a c.loop-b.b (length p.slots.items) c.loop-b.list.items
    c.list_pair.new.list.items (c.args.list.now.items ++ whole_row p.slots.items p.words.items c.args.a)
    (omega (arith, c.loop-b-test.true, c.len-end.ensures, c.args.packed.now.slots.ok.0)) c.loop-b.invariant c.is_hit.result
    c.is_hit.ensures c.in_ok-list_pair.ensures
