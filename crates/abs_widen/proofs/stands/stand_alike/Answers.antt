use Rattle.std.proofs.Common.{◌∙◌, ap, sym}
use Rattle.std.proofs.lemmas.Bool.{false≢true}
use Rattle.abs_reach.specs.Instances.{is_thrown}
use Rattle.abs_widen.specs.Widening.{AreFramesAlike}
use Rattle.abs_widen.proofs.Standing.{all_turned}
use Rattle.abs_widen.proofs.Zips.{all_reversed_as}
use Rattle.abs_widen.proofs.stands.stand_alike.Goals as goal

pub returns-then-not-is_same_mode : goal.returns-then-not-is_same_mode
returns-then-not-is_same_mode g c = (
  λ t. absurd (false≢true t),
  λ h. absurd (false≢true (sym c.if-not-is_same_mode.true
      ∙ c.is_same_mode.ensures.1 (ap is_thrown c.throwing.ensures ∙ h.mode ∙ ap is_thrown (sym c.throwing-2.ensures)))),
)

pub returns : goal.returns
returns g c = (
  λ t. record {
    frames = all_turned (AreFramesAlike c.args.a.now c.args.b.now) c.args.a.now.frames c.frames.result.now c.args.b.now.frames
        c.frames-2.result.now c.frames.ensures c.frames-2.ensures (c.are_frames_alike.ensures.0 t);
    mode = ap is_thrown (sym c.throwing.ensures) ∙ c.is_same_mode.ensures.0 c.if-not-is_same_mode.false
        ∙ ap is_thrown c.throwing-2.ensures;
  },
  λ h. c.are_frames_alike.ensures.1
      (all_reversed_as (AreFramesAlike c.args.a.now c.args.b.now) c.args.a.now.frames c.args.b.now.frames c.frames.result.now
      c.frames-2.result.now c.frames.ensures c.frames-2.ensures h.frames),
)
