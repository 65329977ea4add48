use Rattle.std.proofs.Common.{◌≡◌, refl, ◌∙◌, ap, ℕ, List, ◌&&◌}
use Rattle.abs_cells.specs.declared.cells.Cell.{Cell}
use Rattle.abs_cells.specs.IdSets.{has_id}
use Rattle.abs_cells.specs.Cells.{is_reference, is_hazy, is_of_sort, cell_in}
use Rattle.abs_reach.proofs.Answering.{both_of, none_of, touch_of, touched_of}
use Rattle.abs_reach.proofs.AnsweringSets.{some_inside, some_shares, some_must_share}
use Rattle.abs_reach.proofs.sets.some_may_be_in.Goals as goal

pub returns-then-have_one : goal.returns-then-have_one
returns-then-have_one g c = (
  λ _. some_inside c.args.state.now c.requires.good c.args.x c.args.ks.now c.walk-found.result.met c.walk-found.ensures.met
      (both_of is_reference c.args.ks.now c.walk-found.result.met c.cells.result.now c.args.state.now.cells c.have_one.result
      c.cells.ensures c.requires.good.rising c.have_one.ensures c.if-have_one.true),
  λ _. refl,
)

pub returns : goal.returns
returns g c =
    let hazy_is : (n : ℕ)
    → has_id c.hazy_among-hazy.result n
    ≡ (has_id c.walk-found.result.met n && is_of_sort is_hazy (cell_in c.args.state.now.cells n)) = λ n.
    c.hazy_among-hazy.ensures n
    ∙ ap (λ (cs : List (ℕ × Cell)). has_id c.walk-found.result.met n && is_of_sort is_hazy (cell_in cs n)) c.cells-2.ensures in (
      λ h. some_shares c.args.state.now c.requires.good c.args.x c.args.ks.now c.walk-found.result.met c.hazy_among-hazy.result
          c.walk-found.ensures.met hazy_is (touch_of c.args.ks.now c.hazy_among-hazy.result (g.P.Pairs.pairs c.share.result.now)
          c.args.state.now.share c.touches.result c.share.ensures c.touches.ensures.rising c.touches.ensures.value h),
      λ m. touched_of c.args.ks.now c.hazy_among-hazy.result (g.P.Pairs.pairs c.share.result.now) c.args.state.now.share
          c.touches.result c.share.ensures c.touches.ensures.value
          ∙ some_must_share c.args.state.now c.requires.good c.args.x c.args.ks.now c.walk-found.result.met c.hazy_among-hazy.result
          c.walk-found.ensures.met hazy_is
          (none_of is_reference c.args.ks.now c.walk-found.result.met c.cells.result.now c.args.state.now.cells
          c.have_one.result c.cells.ensures c.have_one.ensures c.if-have_one.false) m,
    )
