use Rattle.std.proofs.Common.{◌<◌, ℕ, sym, subst}
use Rattle.abs_cells.specs.declared.cells.Cell.{Cell}
use Rattle.abs_heap.specs.Names.{name_in}
use Rattle.abs_heap.specs.inner.Renaming.{is_named}
use Rattle.abs_heap.proofs.After.{names_next, any_all}
use Rattle.abs_heap.proofs.rewriting.names_among.Goals as goal

pub put_if-requires : goal.put_if-requires
put_if-requires c = subst (λ (n : ℕ). n < 2048) (sym c.name_of.ensures)
    (subst (λ (x : ℕ × Cell). name_in c.args.names.now x.0 < 2048) (sym c.loop-id-item.is)
    (c.requires c.loop-id.id-index c.loop-id-item.result c.loop-id-test.true))

pub loop-id-preserved : goal.loop-id-preserved
loop-id-preserved c n = names_next c.args.names.now c.args.first.now c.args.second.now n c.loop-id.id-index c.loop-id-item.result
    c.args.cells.now _ _ _ _ c.loop-id-test.true c.loop-id-item.is c.is_in_one-wanted.ensures c.name_of.ensures
    (c.loop-id.invariant n) (c.put_if.ensures n)

pub returns : goal.returns
returns c n = any_all (is_named c.args.names.now c.args.first.now c.args.second.now n) c.args.cells.now c.loop-id.id-index _
    c.loop-id-test.false (c.loop-id.invariant n)
