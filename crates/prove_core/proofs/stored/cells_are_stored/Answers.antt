use Rattle.std.proofs.Common.{ℕ, arith}
use Rattle.list_views.proofs.Quantified.{every_one_more, every_whole}
use Rattle.abs_cells.specs.declared.cells.Cell.{Cell}
use Rattle.prove_core.specs.Stored.{IsStoredCell}
use Rattle.prove_core.proofs.stored.cells_are_stored.Goals as goal

pub loop-one-preserved : goal.loop-one-preserved
loop-one-preserved c = every_one_more (λ (d : ℕ × Cell). IsStoredCell d.1) c.args.cells.now c.loop-one.one-index c.one-item.result
    (omega (arith, c.loop-one-test.true)) c.one-item.is c.loop-one.invariant c.cell_is_stored.ensures

pub returns : goal.returns
returns c = every_whole (λ (d : ℕ × Cell). IsStoredCell d.1) c.args.cells.now c.loop-one.one-index
    (omega (arith, c.loop-one-test.false)) c.loop-one.invariant
