use Rattle.std.proofs.Common.{◌∙◌, ap}
use Rattle.abs_cells.specs.PairLists.{has}
use Rattle.abs_turns.specs.Turns.{Here}
use Rattle.abs_turns.proofs.spot.Spot.may_be_one.Goals as goal

pub returns : goal.returns
returns g c = c.is_pair.ensures ∙ ap (has c.args.a c.args.b) (c.eq.ensures ∙ ap (λ (here : Here). here.state.eq) c.self.view_is)
