-- Words for the calls that make the children of steps.
use Rattle.std.specs.Prelude.{◌≡◌, ℕ, ◌<◌, ◌++◌, List, ◌∷◌, map, take, drop, slice_set, Option, Some, None, unwrap_or, Bool, true, false}
use Rattle.jvm_values.specs.TypedHeaps.{WorldTypes}
use Rattle.abs_cells.specs.declared.cells.Cell.{Cell}
use Rattle.abs_cells.specs.AbstractStates.{AbstractFrame, AbstractState}
use Rattle.abs_cells.specs.Cells.{cell_in, AreEqual, Share}
use Rattle.abs_heap.specs.Given.{IsGiven, with_cells}
use Rattle.abs_plans.specs.abs_turns.Plans.{Act, Goal, nowhere, on_stack, in_local, in_bottom, in_field, is_thrown}
use Rattle.abs_plans.specs.abs_turns.Table.{bottom_with}
use Rattle.abs_expand.specs.Children.{IsActed, gone_to, top_with, field_with}

-- a number is the least that no cell is of
pub record IsLeastFree (listed : List (ℕ × Cell)) (free : ℕ) : Type 0 where
  pub none : cell_in listed free ≡ None
  pub least : (m : ℕ) → m < free → (cell : Cell) × (cell_in listed m ≡ Some cell)

-- a cell under its id as it is after changes of cells
abbrev pub changed_cell : List (ℕ × Cell) → ℕ × Cell → Cell
changed_cell changed c = unwrap_or (cell_in changed c.0) c.1

-- all cells as they are after changes of cells
abbrev pub changed_cells : List (ℕ × Cell) → List (ℕ × Cell) → List (ℕ × Cell)
changed_cells changed listed = map (λ c. (c.0, changed_cell changed c)) listed

-- cells with one more, which is put at the place of its id's number
abbrev pub inserted : ℕ → Cell → List (ℕ × Cell) → List (ℕ × Cell)
inserted id cell listed = take id listed ++ ((id, cell) ∷ drop id listed)

-- the frames in which an id has gone to a goal
abbrev pub frames_to : Goal → ℕ → List AbstractFrame → List AbstractFrame
frames_to on_stack id frames = top_with (λ frame. record frame { stack = id ∷ frame.stack }) frames
frames_to (in_local n) id frames = top_with (λ frame. record frame { locals = slice_set frame.locals n (Some id) }) frames
frames_to (in_bottom n) id frames = bottom_with n id frames
frames_to _ id frames = frames

-- the thrown id after an id has gone to a goal
abbrev pub thrown_to : Goal → ℕ → Option ℕ → Option ℕ
thrown_to is_thrown id thrown = Some id
thrown_to _ id thrown = thrown

-- the cells in which an id has gone to a goal
abbrev pub cells_to : Goal → ℕ → List (ℕ × Cell) → List (ℕ × Cell)
cells_to (in_field k place) id listed = map (field_with k place id) listed
cells_to _ id listed = listed

-- a goal is a local of the bottom frame
abbrev pub is_at_bottom : Goal → Bool
is_at_bottom (in_bottom n) = true
is_at_bottom _ = false

-- a goal is a place to which a fresh id goes
abbrev pub GoesSomewhere : Goal → Type 0
GoesSomewhere nowhere = ⊥
GoesSomewhere _ = Unit {0}

-- the state of a step before ids are dropped: cells, frames and the thrown id change, then the act is done, and its id goes to the goal
pub record IsTurnState (types : WorldTypes) (state : AbstractState) (changes : List (ℕ × Cell)) (frames : List AbstractFrame)
    (throwing : Option ℕ) (act : Act) (goal : Goal) (id : ℕ) (after : AbstractState) : Type 0 where
  pub changed : AbstractState
  pub is_changed : IsGiven frames throwing (with_cells changes state) (AreEqual state) (Share state) changed
  pub acted : AbstractState
  pub is_acted : IsActed types act id changed acted
  pub is : after ≡ gone_to goal id acted
