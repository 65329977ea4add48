use Rattle.std.proofs.Common.{refl, ◌∙◌}
use Rattle.abs_cells.specs.Cells.{is_reference}
use Rattle.abs_reach.proofs.Answering.{both_of, none_of, touch_of, touched_of}
use Rattle.abs_reach.proofs.AnsweringSets.{common_some, share_some, must_share_some}
use Rattle.abs_reach.proofs.sets.may_meet_some.Goals as goal

pub returns-then-have_one : goal.returns-then-have_one
returns-then-have_one g c = (
  λ _. common_some c.args.state.now c.requires.good c.args.x c.walk-first.result.met c.walk-first.ensures.met c.args.others.now
      c.walk_all-second.result.met c.walk_all-second.ensures
      (both_of is_reference c.walk-first.result.met c.walk_all-second.result.met c.cells.result.now c.args.state.now.cells
      c.have_one.result c.cells.ensures c.requires.good.rising c.have_one.ensures c.if-have_one.true),
  λ _. refl,
)

pub returns : goal.returns
returns g c = (
  λ h. share_some c.args.state.now c.requires.good c.args.x c.walk-first.result.met c.walk-first.ensures.met c.args.others.now
      c.walk_all-second.result.met c.walk_all-second.ensures
      (touch_of c.walk-first.result.met c.walk_all-second.result.met (g.P.Pairs.pairs c.share.result.now) c.args.state.now.share
      c.touches.result c.share.ensures c.touches.ensures.rising c.touches.ensures.value h),
  λ m. touched_of c.walk-first.result.met c.walk_all-second.result.met (g.P.Pairs.pairs c.share.result.now) c.args.state.now.share
      c.touches.result c.share.ensures c.touches.ensures.value
      ∙ must_share_some c.args.state.now c.requires.good c.args.x c.walk-first.result.met c.walk-first.ensures.met c.args.others.now
      c.walk_all-second.result.met c.walk_all-second.ensures
      (none_of is_reference c.walk-first.result.met c.walk_all-second.result.met c.cells.result.now c.args.state.now.cells
      c.have_one.result c.cells.ensures c.have_one.ensures c.if-have_one.false) m,
)
