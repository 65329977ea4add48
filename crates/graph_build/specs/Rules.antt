-- What a graph grows by: which states are heads, what a state becomes, and which states stand for others.
use Rattle.std.specs.Prelude.{◌≡◌, ℕ, Bool, List, map}
use Rattle.abs_cells.specs.AbstractStates.{AbstractState}
use Rattle.abs_reach.specs.Instances.{head_of, is_thrown}

-- what a growing graph asks of states: whether one is a head, such as a loop's; whether the run ends with the next step; the children of a
-- state, in their order, where none has too many ids, or that one of them has; that a state is an instance of another one by a map of ids;
-- the widening of an earlier state by a later one, where it has not too many ids, or that it has
pub record GrowthRules : Type 1 where
  pub is_head : AbstractState → Bool
  pub Ends : AbstractState → Type 0
  pub HasChildren : AbstractState → List AbstractState → Type 0
  pub HasLargeChild : AbstractState → Type 0
  pub IsInstance : AbstractState → AbstractState → List (ℕ × ℕ) → Type 0
  pub HasWidening : AbstractState → AbstractState → AbstractState → Type 0
  pub HasLargeWidening : AbstractState → AbstractState → Type 0

-- two states have the same positions: frames of the same methods at the same places, with operand stacks of the same depths, and in both an
-- object is thrown or in neither
pub record HaveSamePositions (a b : AbstractState) : Type 0 where
  pub frames : map head_of a.frames ≡ map head_of b.frames
  pub thrown : is_thrown a.throwing ≡ is_thrown b.throwing
