-- The ids that a state's positions reach, and states that lost ids.
use Rattle.std.specs.Prelude.{◌≡◌, ℕ, true, List, [], ◌∷◌, ◌++◌, Some, slice_get, ◌↔◌}
use Rattle.std.specs.List.{flat_map}
use Rattle.std.specs.Option.{option_and_then}
use Rattle.jvm_values.specs.Paths.{Steps, Reaches}
use Rattle.abs_cells.specs.AbstractStates.{AbstractState}
use Rattle.abs_cells.specs.Sound.{given_ids, ids_of_frame}
use Rattle.abs_cells.specs.Closures.{IsFiniteId}
use Rattle.abs_cells.specs.Patterns.{Pattern, IsPattern}
use Rattle.abs_cells.specs.Cells.{ids_in, cell_at, HasCell, AreEqual, Share}

-- the steps of a walk over the ids of an abstract state: from a cell to each id that it names, to the length of an array of
-- references as well
abbrev pub named_steps : AbstractState → Steps
named_steps state a i = option_and_then (λ cell. slice_get (ids_in cell) i) (cell_at state a)

-- the ids at the places of an abstract state's frames, and then the thrown one
abbrev pub positions : AbstractState → List ℕ
positions state = flat_map ids_of_frame state.frames ++ given_ids (state.throwing ∷ [])

-- an id of an abstract state is reached: it stands at a place of a frame or is the thrown one, or cells lead to it from
-- such an id
pub record IsReached (state : AbstractState) (id : ℕ) : Type 0 where
  pub place : ℕ
  pub start : ℕ
  pub stands : slice_get (positions state) place ≡ Some start
  pub reaches : Reaches (named_steps state) start id

-- one abstract state is another one with fewer ids: it has the same frames and the same thrown id, some of the cells, and
-- of the pairs of their ids all
pub record IsRestricted (whole part : AbstractState) : Type 0 where
  pub frames : part.frames ≡ whole.frames
  pub throwing : part.throwing ≡ whole.throwing
  pub cells : (id : ℕ) → HasCell (λ _. true) part id → cell_at part id ≡ cell_at whole id
  pub eq : (a b : ℕ) → HasCell (λ _. true) part a → HasCell (λ _. true) part b → AreEqual whole a b → AreEqual part a b
  pub share : (a b : ℕ) → HasCell (λ _. true) part a → HasCell (λ _. true) part b → Share whole a b → Share part a b

-- one abstract state is what another one is without the ids that are not reached: what is reached keeps its cell, nothing
-- else has one, and the pairs are those of two reached ids
pub record IsDropped (whole part : AbstractState) : Type 0 where
  pub frames : part.frames ≡ whole.frames
  pub throwing : part.throwing ≡ whole.throwing
  pub kept : (id : ℕ) → IsReached whole id → cell_at part id ≡ cell_at whole id
  pub gone : (id : ℕ) → HasCell (λ _. true) part id → IsReached whole id
  pub eq : (a b : ℕ) → AreEqual part a b ↔ (AreEqual whole a b × (IsReached whole a × IsReached whole b))
  pub share : (a b : ℕ) → Share part a b ↔ (Share whole a b × (IsReached whole a × IsReached whole b))

-- an id is told to have no cycle in one abstract state exactly where it is in another, and has the same pattern there; so
-- it has a size in both or in none
pub record IsSizedAlike (one other : AbstractState) (id : ℕ) : Type 0 where
  pub finite : IsFiniteId one id ↔ IsFiniteId other id
  pub pattern : (pattern : Pattern) → IsPattern one id pattern ↔ IsPattern other id pattern
