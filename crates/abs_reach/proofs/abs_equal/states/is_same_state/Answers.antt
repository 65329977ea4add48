use Rattle.std.proofs.Common.{ap}
use Rattle.abs_cells.specs.AbstractStates.{AbstractState}
use Rattle.abs_reach.proofs.Same.{state_same}
use Rattle.abs_reach.proofs.abs_equal.states.is_same_state.Goals as goal

pub returns-then-are_same_positions : goal.returns-then-are_same_positions
returns-then-are_same_positions g c = (
  λ t. state_same _ _ (c.are_same_positions.ensures.0 c.if-are_same_positions.true) (c.are_same_words.ensures.0 t),
  λ e. c.are_same_words.ensures.1
      (ap (λ (s : AbstractState). s.cells) e, (ap (λ (s : AbstractState). s.eq) e, ap (λ (s : AbstractState). s.share) e)),
)
