use Rattle.std.proofs.Common.{◌∙◌, refl, sym}
use Rattle.std.proofs.lemmas.Bool.{false≢true}
use Rattle.abs_widen.specs.Widening.{AreFramesAlike}
use Rattle.abs_widen.proofs.Standing.{all_gone, one_gone, as_placed, as_read}
use Rattle.abs_widen.proofs.Zips.{all_at}
use Rattle.abs_widen.proofs.stands.are_frames_alike.Goals as goal

pub loop-n-preserved : goal.loop-n-preserved
loop-n-preserved g c =
    one_gone (AreFramesAlike c.args.a.now c.args.b.now) c.args.frames.now c.args.others.now c.loop-n.n c.index-frames-n.result
    c.index-others-n.result c.loop-n-test.true c.if-frames-others.false
    (as_placed (AreFramesAlike c.args.a.now c.args.b.now) c.args.frames.now c.args.others.now c.loop-n.n c.index-frames-n.result
    c.index-others-n.result c.index-frames-n.is c.index-others-n.is (c.is_frame_alike.ensures.0 c.if-not-is_frame_alike.false))
    c.loop-n.invariant

pub returns-then-not-is_frame_alike : goal.returns-then-not-is_frame_alike
returns-then-not-is_frame_alike g c = (
  λ t. absurd (false≢true t),
  λ h.
      absurd (false≢true (sym c.if-not-is_frame_alike.true
      ∙ c.is_frame_alike.ensures.1
      (as_read (AreFramesAlike c.args.a.now c.args.b.now) c.args.frames.now c.args.others.now c.loop-n.n c.index-frames-n.result
      c.index-others-n.result c.index-frames-n.is c.index-others-n.is
      (all_at (AreFramesAlike c.args.a.now c.args.b.now) c.args.frames.now c.args.others.now c.loop-n.n c.index-frames-n.result
      c.index-others-n.result h c.loop-n-test.true)))),
)

pub returns : goal.returns
returns g c = (
  λ t. all_gone (AreFramesAlike c.args.a.now c.args.b.now) c.args.frames.now c.args.others.now c.loop-n.n
      c.if-frames-others.false c.loop-n-test.false c.loop-n.invariant,
  λ h. refl,
)
