use Rattle.std.proofs.Common.{◌≡◌, refl, sym, ◌∙◌, ap, ℕ, List, ◌&&◌, true}
use Rattle.std.proofs.lemmas.Bool.{false≢true}
use Rattle.abs_cells.specs.declared.cells.Cell.{Cell}
use Rattle.abs_cells.specs.Cells.{is_reference, is_hazy, is_of_sort, cell_in}
use Rattle.abs_cells.specs.IdSets.{has_id}
use Rattle.abs_cells.proofs.Checking.{has_cell_from, has_cell_to}
use Rattle.abs_reach.proofs.Room.{has_cell_low}
use Rattle.abs_reach.proofs.Answering.{there_of, touch_of, touched_of}
use Rattle.abs_reach.proofs.AnsweringSets.{inside_some, shares_some, must_share_there}
use Rattle.abs_reach.proofs.sets.may_be_in_some.Goals as goal

pub only-requires : goal.only-requires
only-requires g c = has_cell_low c.args.state.now.cells c.args.k c.requires.good.rising
    (there_of c.args.state.now c.requires.good c.args.state.now.cells refl c.args.k c.requires.there)

pub returns-then-not-is_reference_in : goal.returns-then-not-is_reference_in
returns-then-not-is_reference_in g c = (
  λ h. absurd (false≢true h),
  λ s. absurd (false≢true (sym c.if-not-is_reference_in.true ∙ c.is_reference_in.ensures
      ∙ ap (λ (cs : List (ℕ × Cell)). is_of_sort is_reference (cell_in cs c.args.k)) c.cells.ensures
      ∙ has_cell_to is_reference c.args.state.now c.args.k s.may_be_in.counts)),
)

pub returns-then-has : goal.returns-then-has
returns-then-has g c =
    let counts : is_of_sort is_reference (cell_in c.args.state.now.cells c.args.k) ≡ true = ap
    (λ (cs : List (ℕ × Cell)). is_of_sort is_reference (cell_in cs c.args.k)) (sym c.cells.ensures)
    ∙ sym c.is_reference_in.ensures ∙ c.if-not-is_reference_in.false in (
      λ _. inside_some c.args.state.now c.requires.good c.args.k c.args.others.now c.walk_all-found.result.met
          c.walk_all-found.ensures (has_cell_from is_reference c.args.state.now c.args.k counts)
          (sym c.has.ensures ∙ c.if-has.true),
      λ _. refl,
    )

pub returns : goal.returns
returns g c =
    let hazy_is : (n : ℕ)
    → has_id c.hazy_among-hazy.result n
    ≡ (has_id c.walk_all-found.result.met n && is_of_sort is_hazy (cell_in c.args.state.now.cells n)) = λ n.
    c.hazy_among-hazy.ensures n
    ∙ ap (λ (cs : List (ℕ × Cell)). has_id c.walk_all-found.result.met n && is_of_sort is_hazy (cell_in cs n)) c.cells-2.ensures in
    let counts : is_of_sort is_reference (cell_in c.args.state.now.cells c.args.k) ≡ true = ap
    (λ (cs : List (ℕ × Cell)). is_of_sort is_reference (cell_in cs c.args.k)) (sym c.cells.ensures)
    ∙ sym c.is_reference_in.ensures ∙ c.if-not-is_reference_in.false in (
      λ h. shares_some c.args.state.now c.requires.good c.args.k c.args.others.now c.walk_all-found.result.met c.only.result
          c.hazy_among-hazy.result c.walk_all-found.ensures c.only.ensures hazy_is
          (has_cell_from is_reference c.args.state.now c.args.k counts)
          (touch_of c.only.result c.hazy_among-hazy.result (g.P.Pairs.pairs c.share.result.now) c.args.state.now.share
          c.touches.result c.share.ensures c.touches.ensures.rising c.touches.ensures.value h),
      λ m. touched_of c.only.result c.hazy_among-hazy.result (g.P.Pairs.pairs c.share.result.now) c.args.state.now.share
          c.touches.result c.share.ensures c.touches.ensures.value
          ∙ must_share_there c.args.state.now c.requires.good c.args.k c.args.others.now c.walk_all-found.result.met c.only.result
          c.hazy_among-hazy.result c.walk_all-found.ensures c.only.ensures hazy_is
          (has_cell_from is_reference c.args.state.now c.args.k counts) (sym c.has.ensures ∙ c.if-has.false) m,
    )
