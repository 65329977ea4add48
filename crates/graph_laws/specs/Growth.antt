-- What the graph of a program's runs grows by: expansions, instances and widenings.
use Rattle.std.specs.Prelude.{◌≡◌, ℕ, Bool, List, map}
use Rattle.abs_cells.specs.AbstractStates.{AbstractState}
use Rattle.abs_reach.specs.Instances.{InstanceOf}
use Rattle.abs_widen.specs.Visits.{AreTooMany}
use Rattle.abs_widen.specs.Widening.{IsWidening}
use Rattle.class_world.specs.WorldTypes.{types_of}
use Rattle.class_program.specs.Programs.{Program}
use Rattle.frame_types.specs.Tables.{CodeTypes}
use Rattle.term_graph.specs.Graphs.{GraphChild}
use Rattle.graph_build.specs.Rules.{GrowthRules}
use Rattle.graph_check.specs.Good.{HasChildren, HasEnded, HasTooMany}

-- the states of the children that the expansion of a state gives
pub record HasStates (p : Program) (typing : ℕ → CodeTypes) (state : AbstractState) (states : List AbstractState) : Type 0 where
  pub children : List GraphChild
  pub are : HasChildren p typing state children
  pub states_are : states ≡ map (λ (child : GraphChild). child.state) children

-- what the graph of a program's runs grows by, with these states as heads: the expansion of states, instances, and widenings
abbrev pub growth_by : Program → (ℕ → CodeTypes) → (AbstractState → Bool) → GrowthRules
growth_by p typing is_head = record {
  is_head = is_head;
  Ends = HasEnded p typing;
  HasChildren = HasStates p typing;
  HasLargeChild = HasTooMany p typing;
  IsInstance = InstanceOf (types_of p.world).sub;
  HasWidening = IsWidening (types_of p.world);
  HasLargeWidening = AreTooMany;
}
