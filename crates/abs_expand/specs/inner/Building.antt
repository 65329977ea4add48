-- Words for the calls that make the children of steps.
use Rattle.std.specs.Prelude.{◌≡◌, ℕ, ◌+◌, List, map}
use Rattle.jvm_values.specs.TypedHeaps.{WorldTypes}
use Rattle.abs_cells.specs.AbstractStates.{AbstractState}
use Rattle.abs_cells.specs.PairLists.{IsRising}
use Rattle.abs_cells.specs.Sound.{AreIdsRising}
use Rattle.abs_reach.specs.Reached.{IsDropped}
use Rattle.term_graph.specs.Graphs.{GraphChild}
pub use Rattle.abs_plans.specs.abs_turns.GoodPlans.{HoldsIds}
pub use Rattle.abs_expand.specs.inner.Making.{frames_to}
use Rattle.abs_plans.specs.abs_turns.Plans.{Turn, ids_made}
use Rattle.abs_heap.specs.declared.fault.SplitFault.{SplitFault}
use Rattle.abs_heap.specs.declared.fault.SplitFault.TheVariants as splits
use Rattle.abs_expand.specs.declared.fault.ExpandFault.{ExpandFault}
use Rattle.abs_expand.specs.declared.fault.ExpandFault.TheVariants as faults
use Rattle.abs_expand.specs.Children.{IsTurnChild, IsLean}

-- a state after ids are dropped from a whole one: its ids and pairs rise
pub record IsLeanState (whole part : AbstractState) : Type 0 where
  pub rising : AreIdsRising 0 part.cells
  pub eq_rise : IsRising part.eq
  pub share_rise : IsRising part.share
  pub dropped : IsDropped whole part

-- how many ids the children of steps have before ids are dropped
abbrev pub turn_counts : WorldTypes → ℕ → List Turn → List ℕ
turn_counts types count turns = map (λ (turn : Turn). count + ids_made types turn.act) turns

-- the child of a step without the ids that nothing reaches
pub record IsChildOf (types : WorldTypes) (state : AbstractState) (turn : Turn) (child : GraphChild) : Type 0 where
  pub whole : GraphChild
  pub is : IsTurnChild types state turn whole
  pub lean : IsLean whole child

-- the fault of a split by class, as one of an expansion
abbrev pub fault_of_split : SplitFault → ExpandFault
fault_of_split (splits.TooManyIds child) = faults.TooManyIds child
fault_of_split splits.Memory = faults.Memory
