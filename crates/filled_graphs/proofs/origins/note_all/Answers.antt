use Rattle.filled_graphs.proofs.Noting.{next_noted}
use Rattle.filled_graphs.proofs.origins.note_all.Goals as goal

pub loop-place-preserved : goal.loop-place-preserved
loop-place-preserved c = λ parts is so. next_noted parts c.args.node c.loop-place.place _ c.args.named.now c.loop-place.origins
    c.note.new.origins is c.loop-place-test.true c.note.ensures (c.loop-place.invariant parts is so)
