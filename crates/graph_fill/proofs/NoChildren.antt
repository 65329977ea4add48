-- States without an expansion have no children, and neither has one at which the run ends.
use Rattle.std.proofs.Common.{ℕ, List, Option, Some, None, Ok, Err}
use Rattle.abs_cells.specs.AbstractStates.{AbstractState}
use Rattle.class_program.specs.class_world.WorldTypes.{types_of}
use Rattle.class_program.specs.Programs.{Program}
use Rattle.frame_types.specs.Tables.{CodeTypes}
use Rattle.term_graph.specs.Graphs.{GraphChild}
use Rattle.graph_check.specs.abs_expand.Answers.{Answers}
use Rattle.graph_check.specs.abs_expand.declared.fault.ExpandFault.TheVariants.{TooManyIds}
use Rattle.graph_check.specs.abs_expand.BadStates.{IsBadState}
use Rattle.graph_check.specs.abs_expand.Expansions.{plan_of, counts_of}
use Rattle.graph_check.proofs.one_expansion.OneAnswer.{few_or_many, no_children, not_bad}
use Rattle.filled_graphs.specs.filled_nodes.Children.{HasNone, HasThemOrNone}
use Rattle.graph_fill.specs.ChildrenOfStates.{child_rules}

module _ (p : Program) (typing : ℕ → CodeTypes) (state : AbstractState) where
  pub none_bad : (clause : ℕ) → IsBadState p typing state clause → HasNone (child_rules p typing) state
  none_bad clause bad others h = not_bad p typing state clause h.0 bad

  pub none_many : (child : ℕ) → Answers p typing state (Err (TooManyIds child)) → HasNone (child_rules p typing) state
  none_many child many others h = few_or_many (counts_of (types_of p.world) state (plan_of p typing state)) child h.1.few many.1

  -- what an expansion gives
  pub them_or_none : (found : Option (List GraphChild)) → Answers p typing state (Ok found) → HasThemOrNone (child_rules p typing) state found
  them_or_none None ends = λ others h. no_children (types_of p.world) state (plan_of p typing state) others ends.1 h.1
  them_or_none (Some children) has = has
