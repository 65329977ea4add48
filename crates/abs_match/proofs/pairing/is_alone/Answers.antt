use Rattle.std.proofs.Common.{true, ◌∙◌, sym}
use Rattle.std.proofs.lemmas.Bool.{false≢true}
use Rattle.abs_cells.proofs.Checking.{has_cell_to}
use Rattle.abs_reach.proofs.Room.{has_cell_low}
use Rattle.abs_match.proofs.Ready.{not_alone, untouched, if_alone}
use Rattle.abs_match.proofs.pairing.is_alone.Goals as goal

pub only-requires : goal.only-requires
only-requires g c = has_cell_low c.args.state.now.cells c.args.id c.requires.good.rising
    (has_cell_to (λ _. true) c.args.state.now c.args.id c.requires.there)

pub returns-then-is_among : goal.returns-then-is_among
returns-then-is_among g c =
    let there = c.is_among.ensures.0 c.if-is_among.true in
    (λ t. absurd (false≢true t), λ all. absurd (not_alone c.args.state.now c.args.id c.args.others.now there.0 there.1 all))

pub returns : goal.returns
returns g c = (
  untouched c.args.state.now c.args.id c.args.others.now c.only.result (g.P.Pairs.pairs c.eq.result.now) c.eq.ensures c.only.ensures
      c.touches.result c.touches.ensures.value c.touches.ensures.rising
      (λ h r. false≢true (sym c.if-is_among.false ∙ c.is_among.ensures.1 (h, r))),
  if_alone c.args.state.now c.args.id c.args.others.now c.only.result (g.P.Pairs.pairs c.eq.result.now) c.eq.ensures c.only.ensures
      c.touches.result c.touches.ensures.value c.touches.ensures.rising,
)
