use Rattle.std.proofs.Common.{◌∙◌, sym, ap}
use Rattle.std.specs.Prelude.{reverse}
use Rattle.abs_reach.proofs.Same.{turned_same}
use Rattle.abs_reach.proofs.abs_equal.frames.are_same_stacks.Goals as goal

pub returns : goal.returns
returns c = (
  λ t. turned_same _ _ (sym c.stack.ensures ∙ c.are_same_entries.ensures.0 t ∙ c.stack-2.ensures),
  λ e. c.are_same_entries.ensures.1 (c.stack.ensures ∙ ap reverse e ∙ sym c.stack-2.ensures),
)
