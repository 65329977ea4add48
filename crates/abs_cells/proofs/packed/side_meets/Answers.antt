use Rattle.std.proofs.Common.{sym, ◌∙◌, arith}
use Rattle.std.proofs.lemmas.Bool.{false≢true}
use Rattle.abs_cells.proofs.PackedLaws.{later_row}
use Rattle.abs_cells.proofs.PackedLooks.{side_more}
use Rattle.abs_cells.proofs.packed.side_meets.Goals as goal
use Rattle.abs_cells.proofs.packed.side_meets.Goals.{else-has-via-then-has+else-row_meets, else-has-via-else-has}

pub row_meets-requires-clause-within : goal.row_meets-requires-clause-within
row_meets-requires-clause-within c = omega (arith, later_row c.loop-slot.slot c.args.count c.loop-slot-test.true, c.requires.within)

pub loop-slot-preserved : goal.loop-slot-preserved
loop-slot-preserved c = side_more c.args.words.now c.args.xs.now c.args.ys.now c.loop-slot.slot c.loop-slot.invariant
    (elim c.else-has.branch [
      | else-has-via-then-has+else-row_meets w ↦ λ _ m. w.row_meets.ensures.no w.if-row_meets.false m
      | else-has-via-else-has w ↦ λ h _. false≢true (sym w.if-has.false ∙ c.has.ensures ∙ h)
    ])
