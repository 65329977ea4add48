-- The child of a step: frames and cells change, the step's act makes an id, which goes to its goal, and ids that nothing reaches are
-- dropped.
use Rattle.std.specs.Prelude.{◌≡◌, ℕ, ◌==◌, true, if◌then◌else◌, List, [], ◌∷◌, map, Some, None, slice_set}
use Rattle.jvm_values.specs.declared.types.Ty.{Ty}
use Rattle.jvm_values.specs.declared.shape.Shape.{Shape}
use Rattle.jvm_values.specs.TypedHeaps.{WorldTypes}
use Rattle.abs_cells.specs.declared.cells.Cell.{Cell}
use Rattle.abs_cells.specs.declared.cells.Cell.TheVariants as cells
use Rattle.abs_cells.specs.AbstractStates.{AbstractFrame, AbstractState}
use Rattle.abs_cells.specs.Cells.{cell_at, AreEqual, Share}
use Rattle.abs_cells.specs.PairLists.{IsRising}
use Rattle.abs_cells.specs.Sound.{AreIdsRising}
use Rattle.abs_reach.specs.Reached.{IsDropped}
use Rattle.term_graph.specs.Graphs.{GraphChild}
use Rattle.abs_heap.specs.Given.{IsGiven, AreFresh, with_cells}
use Rattle.abs_heap.specs.Writing.{IsWriteChild, IsItemChild, IsObjectChild, IsNewArrayChild}
use Rattle.abs_plans.specs.abs_turns.Plans.{Act, nothing, makes, writes, item, object, array, Goal, nowhere, on_stack, in_local, in_bottom}
use Rattle.abs_plans.specs.abs_turns.Plans.{in_field, is_thrown, Turn}
use Rattle.abs_plans.specs.abs_turns.Table.{bottom_with}

-- an act leads from one abstract state to another, with the id that it makes; an act that makes none may have any number for it
abbrev pub IsActed : WorldTypes → Act → ℕ → AbstractState → AbstractState → Type 0
IsActed types nothing id state after = after ≡ state
IsActed types (makes cell) id state after = AreFresh state (id ∷ []) × IsGiven state.frames state.throwing
    (with_cells ((id, cell) ∷ []) state) (AreEqual state) (Share state) after
IsActed types (writes write) id state after = IsWriteChild state write after
IsActed types (item k) id state after = (element : Ty) × (len : ℕ) × (shape : Shape)
    × ((cell_at state k ≡ Some (cells.Refs element len shape)) × IsItemChild types.sub state k element shape id after)
IsActed types (object class) id state after = IsObjectChild types state class id after
IsActed types (array slot len) id state after = IsNewArrayChild types.erase state slot len id after

-- frames with a change to the running one
abbrev pub top_with : (AbstractFrame → AbstractFrame) → List AbstractFrame → List AbstractFrame
top_with change [] = []
top_with change (frame ∷ below) = change frame ∷ below

-- the cell of an instance with another id in a field; other cells stay as they are
abbrev pub set_field : ℕ → ℕ → Cell → Cell
set_field place id (cells.Obj class ids) = cells.Obj class (slice_set ids place id)
set_field place id cell = cell

-- a cell under its id, where the instance k gets another id in a field
abbrev pub field_with : ℕ → ℕ → ℕ → ℕ × Cell → ℕ × Cell
field_with k place id c = (c.0, if c.0 == k then set_field place id c.1 else c.1)

-- the state in which an id has gone to a goal: nowhere, on the running frame's stack, into a local, into a field of a known instance, or
-- it is the thrown one
abbrev pub gone_to : Goal → ℕ → AbstractState → AbstractState
gone_to nowhere id state = state
gone_to on_stack id state = record state { frames = top_with (λ frame. record frame { stack = id ∷ frame.stack }) state.frames }
gone_to (in_local n) id state = record state
    { frames = top_with (λ frame. record frame { locals = slice_set frame.locals n (Some id) }) state.frames }
gone_to (in_bottom n) id state = record state { frames = bottom_with n id state.frames }
gone_to (in_field k place) id state = record state { cells = map (field_with k place id) state.cells }
gone_to is_thrown id state = record state { throwing = Some id }

-- the child of a step before ids are dropped: the frames, the thrown id and the cells become those of the step, then its act is done, the
-- act's id goes to the goal, and the link has the step's rows. Rows of a step whose act makes no id name none
pub record IsTurnChild (types : WorldTypes) (state : AbstractState) (turn : Turn) (child : GraphChild) : Type 0 where
  pub changed : AbstractState
  pub is_changed : IsGiven turn.frames turn.throwing (with_cells turn.changed state) (AreEqual state) (Share state) changed
  pub id : ℕ
  pub acted : AbstractState
  pub is_acted : IsActed types turn.act id changed acted
  pub is : child.state ≡ gone_to turn.goal id acted
  pub link : child.link ≡ record { rows = turn.rows id; merged = None; step = true }

-- ---- dropping

-- a child without the ids that nothing reaches: those of the whole child are dropped, its ids and pairs rise, and its link stays as it is
pub record IsLean (whole child : GraphChild) : Type 0 where
  pub rising : AreIdsRising 0 child.state.cells
  pub eq_rise : IsRising child.state.eq
  pub share_rise : IsRising child.state.share
  pub dropped : IsDropped whole.state child.state
  pub link : child.link ≡ whole.link
