use Rattle.std.proofs.Common.{◌≡◌, refl, inr, sym, ◌∙◌, ap, ℕ, List, ◌&&◌, true}
use Rattle.abs_cells.specs.declared.cells.Cell.{Cell}
use Rattle.abs_cells.specs.Cells.{is_reference, is_hazy, is_of_sort, cell_in}
use Rattle.abs_cells.specs.IdSets.{has_id}
use Rattle.abs_cells.proofs.Checking.{has_cell_from}
use Rattle.abs_reach.proofs.Room.{has_cell_low}
use Rattle.abs_reach.proofs.Answering.{there_of, shares_there, must_touch, touch_of, touched_of}
use Rattle.abs_reach.proofs.meeting.may_be_in.Goals as goal

pub only-requires : goal.only-requires
only-requires g c = has_cell_low c.args.state.now.cells c.args.k c.requires.good.rising
    (there_of c.args.state.now c.requires.good c.args.state.now.cells refl c.args.k c.requires.inner)

pub returns : goal.returns
returns g c =
    let hazy_is : (n : ℕ)
    → has_id c.hazy_among-hazy.result n
    ≡ (has_id c.walk-found.result.met n && is_of_sort is_hazy (cell_in c.args.state.now.cells n)) = λ n.
    c.hazy_among-hazy.ensures n
    ∙ ap (λ (cs : List (ℕ × Cell)). has_id c.walk-found.result.met n && is_of_sort is_hazy (cell_in cs n)) c.cells-2.ensures in
    let counts : is_of_sort is_reference (cell_in c.args.state.now.cells c.args.k) ≡ true = ap
    (λ (cs : List (ℕ × Cell)). is_of_sort is_reference (cell_in cs c.args.k)) (sym c.cells.ensures)
    ∙ sym c.is_reference_in.ensures ∙ c.if-not-is_reference_in.false in (
      λ h. record {
        counts = has_cell_from is_reference c.args.state.now c.args.k counts;
        there = inr (shares_there c.args.state.now c.requires.good c.args.x c.walk-found.result.met c.walk-found.ensures.met
            c.args.k c.only.result c.hazy_among-hazy.result c.only.ensures hazy_is
            (touch_of c.only.result c.hazy_among-hazy.result (g.P.Pairs.pairs c.share.result.now) c.args.state.now.share
            c.touches.result c.share.ensures c.touches.ensures.rising c.touches.ensures.value h));
      },
      λ m. touched_of c.only.result c.hazy_among-hazy.result (g.P.Pairs.pairs c.share.result.now) c.args.state.now.share
          c.touches.result c.share.ensures c.touches.ensures.value
          ∙ must_touch c.args.state.now c.requires.good c.args.x c.walk-found.result.met c.walk-found.ensures.met c.args.k
          c.only.result c.hazy_among-hazy.result c.only.ensures hazy_is (sym c.has.ensures ∙ c.if-has.false) m,
    )
