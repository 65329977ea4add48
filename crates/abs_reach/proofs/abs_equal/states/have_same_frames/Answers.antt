use Rattle.std.proofs.Common.{◌∙◌, sym, ap}
use Rattle.std.specs.Prelude.{reverse}
use Rattle.abs_reach.proofs.Same.{turned_same}
use Rattle.abs_reach.proofs.abs_equal.states.have_same_frames.Goals as goal

pub returns : goal.returns
returns g c = (
  λ t. turned_same _ _ (sym c.frames.ensures ∙ c.are_same_frames.ensures.0 t ∙ c.frames-2.ensures),
  λ e. c.are_same_frames.ensures.1 (c.frames.ensures ∙ ap reverse e ∙ sym c.frames-2.ensures),
)
