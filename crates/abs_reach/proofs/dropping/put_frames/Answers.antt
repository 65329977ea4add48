use Rattle.std.proofs.Common.{◌||◌, ◌∙◌, ap, refl}
use Rattle.abs_cells.specs.AbstractStates.{AbstractFrame}
use Rattle.abs_cells.specs.IdSets.{has_id}
use Rattle.abs_reach.proofs.Dropped.{next_any, end_any, frame_has}
use Rattle.abs_reach.proofs.dropping.put_frames.Goals as goal

pub loop-frame-init : goal.loop-frame-init
loop-frame-init c n l = refl

pub loop-frame-preserved : goal.loop-frame-preserved
loop-frame-preserved c n l = next_any (frame_has n) c.args.frames.now c.loop-frame.frame-index c.frame-item.result
    c.loop-frame-test.true _ _ _
    (c.put_frame.ensures n l ∙ ap (λ (frame : AbstractFrame). has_id c.loop-frame.set n || frame_has n frame) c.frame-item.is)
    (c.loop-frame.invariant n l)

pub returns : goal.returns
returns c n l = end_any (frame_has n) c.args.frames.now c.loop-frame.frame-index c.loop-frame-test.false _ _ (c.loop-frame.invariant n l)
