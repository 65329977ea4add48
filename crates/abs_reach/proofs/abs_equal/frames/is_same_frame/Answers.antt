use Rattle.std.proofs.Common.{ap}
use Rattle.abs_cells.specs.AbstractStates.{AbstractFrame}
use Rattle.abs_reach.proofs.Same.{frame_same}
use Rattle.abs_reach.proofs.abs_equal.frames.is_same_frame.Goals as goal

pub returns-then-is_same_place : goal.returns-then-is_same_place
returns-then-is_same_place c = (
  λ t. frame_same _ _ (c.is_same_place.ensures.0 c.if-is_same_place.true) (c.are_same_ids.ensures.0 t),
  λ e. c.are_same_ids.ensures.1 (ap (λ (f : AbstractFrame). f.locals) e, ap (λ (f : AbstractFrame). f.stack) e),
)
