use Rattle.std.proofs.Common.{arith}
use Rattle.abs_cells.proofs.PackedLooks.{row_met}
use Rattle.abs_cells.proofs.packed.row_meets.Goals as goal

pub returns-then-meet-clause-yes : goal.returns-then-meet-clause-yes
returns-then-meet-clause-yes c _ = row_met c.args.words.now c.args.mask.now c.args.slot c.row_start-start.result c.loop-n.n
    c.word.result c.row_start-start.ensures (omega (arith, c.loop-n-test.true, c.from.ensures)) c.word.ensures
    (c.meet.ensures.yes c.if-meet.true)
