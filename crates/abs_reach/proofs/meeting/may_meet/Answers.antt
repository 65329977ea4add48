use Rattle.std.proofs.Common.{refl, ◌∙◌}
use Rattle.abs_cells.specs.Cells.{is_reference}
use Rattle.abs_reach.proofs.Answering.{one_common, two_share, must_share, both_of, none_of, touch_of, touched_of}
use Rattle.abs_reach.proofs.meeting.may_meet.Goals as goal

pub returns-then-have_one : goal.returns-then-have_one
returns-then-have_one g c = (
  λ _. one_common c.args.state.now c.requires.good c.args.x c.walk-first.result.met c.walk-first.ensures.met c.args.y
      c.walk-second.result.met c.walk-second.ensures.met
      (both_of is_reference c.walk-first.result.met c.walk-second.result.met c.cells.result.now c.args.state.now.cells
      c.have_one.result c.cells.ensures c.requires.good.rising c.have_one.ensures c.if-have_one.true),
  λ _. refl,
)

pub returns : goal.returns
returns g c = (
  λ h. two_share c.args.state.now c.requires.good c.args.x c.walk-first.result.met c.walk-first.ensures.met c.args.y
      c.walk-second.result.met c.walk-second.ensures.met
      (touch_of c.walk-first.result.met c.walk-second.result.met (g.P.Pairs.pairs c.share.result.now) c.args.state.now.share
      c.touches.result c.share.ensures c.touches.ensures.rising c.touches.ensures.value h),
  λ m. touched_of c.walk-first.result.met c.walk-second.result.met (g.P.Pairs.pairs c.share.result.now) c.args.state.now.share
      c.touches.result c.share.ensures c.touches.ensures.value
      ∙ must_share c.args.state.now c.requires.good c.args.x c.walk-first.result.met c.walk-first.ensures.met c.args.y
      c.walk-second.result.met c.walk-second.ensures.met
      (none_of is_reference c.walk-first.result.met c.walk-second.result.met c.cells.result.now c.args.state.now.cells
      c.have_one.result c.cells.ensures c.have_one.ensures c.if-have_one.false) m,
)
