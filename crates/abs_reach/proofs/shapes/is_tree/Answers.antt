use Rattle.std.proofs.Common.{sym, ◌∙◌, ap, not, inl, inr}
use Rattle.std.proofs.lemmas.Bool.{false≢true, not-true, cases_Bool}
use Rattle.abs_cells.specs.declared.cells.Cell.{Cell}
use Rattle.abs_cells.specs.Cells.{may_be_no_tree, shape_of}
use Rattle.abs_reach.proofs.Answering.{trees, has_no_tree, sharing, both_of, none_of, touch_of, touched_of}
use Rattle.abs_reach.proofs.shapes.is_tree.Goals as goal

pub returns-then-have_one : goal.returns-then-have_one
returns-then-have_one g c = (
  λ h. absurd (false≢true h),
  λ f. absurd (has_no_tree c.args.state.now c.requires.good c.args.x c.walk-found.result.met c.walk-found.ensures.met
      (both_of (λ (cell : Cell). may_be_no_tree (shape_of cell)) c.walk-found.result.met c.walk-found.result.met
      c.cells.result.now c.args.state.now.cells c.have_one.result c.cells.ensures c.requires.good.rising c.have_one.ensures
      c.if-have_one.true) f),
)

pub returns : goal.returns
returns g c = (
  λ h. trees c.args.state.now c.requires.good c.args.x c.walk-found.result.met c.walk-found.ensures.met c.walk-found.result.twice
      c.walk-found.ensures.twice c.if-found.false (none_of (λ (cell : Cell). may_be_no_tree (shape_of cell)) c.walk-found.result.met
      c.walk-found.result.met c.cells.result.now c.args.state.now.cells c.have_one.result c.cells.ensures c.have_one.ensures
      c.if-have_one.false) (sym (touched_of c.walk-found.result.met c.walk-found.result.met (g.P.Pairs.pairs c.share.result.now)
      c.args.state.now.share c.touches.result c.share.ensures c.touches.ensures.value) ∙ not-true c.touches.result h),
  λ f. elim (cases_Bool c.touches.result) [
    | inl t ↦ absurd (sharing c.args.state.now c.requires.good c.args.x c.walk-found.result.met c.walk-found.ensures.met
        (touch_of c.walk-found.result.met c.walk-found.result.met (g.P.Pairs.pairs c.share.result.now) c.args.state.now.share
        c.touches.result c.share.ensures c.touches.ensures.rising c.touches.ensures.value t) f)
    | inr t ↦ ap not t
  ],
)
