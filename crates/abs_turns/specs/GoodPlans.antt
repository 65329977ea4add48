-- Plans that can be done: what their steps name is there.
use Rattle.std.specs.Prelude.{◌≡◌, ℕ, ◌<◌, Bool, true, false, List, [], ◌∷◌, Some, None}
use Rattle.std.specs.List.{AllByRecursion}
use Rattle.jvm_values.specs.TypedHeaps.{WorldTypes}
use Rattle.abs_cells.specs.declared.cells.Cell.{Cell}
use Rattle.abs_cells.specs.declared.cells.Cell.TheVariants.{Int, Null, Obj, Nums, Refs, Unk}
use Rattle.abs_cells.specs.AbstractStates.{AbstractFrame, AbstractState}
use Rattle.abs_cells.specs.Cells.{ids_in, cell_in, HasCell, AreEqual}
use Rattle.abs_cells.specs.Sound.{given_ids}
use Rattle.abs_heap.specs.Answers.{IsNullable, IsObjectBelow}
use Rattle.abs_heap.specs.Writing.{is_array_of_references}
use Rattle.abs_turns.specs.Plans.{Act, nothing, makes, writes, item, object, array, Goal, nowhere, on_stack, in_local, in_bottom}
use Rattle.abs_turns.specs.Plans.{in_field, is_thrown, Turn, Plan, ends, steps, by_null, by_class, by_equal}

-- an id has a cell in the state
abbrev pub IsThere : AbstractState → ℕ → Type 0
IsThere state id = HasCell (λ _. true) state id

-- the ids in a frame's locals and on its stack have cells in the state
pub record HoldsIds (state : AbstractState) (frame : AbstractFrame) : Type 0 where
  pub locals : AllByRecursion (IsThere state) (given_ids frame.locals)
  pub stack : AllByRecursion (IsThere state) frame.stack

-- a cell may become another one: any cell an int; the cell of an instance that of an instance; and the cell of an object of unknown class
-- another such cell
abbrev pub may_become : Cell → Cell → Bool
may_become before (Int after) = true
may_become (Obj before ids) (Obj after others) = true
may_become (Unk before nullable shape) (Unk after other better) = true
may_become _ _ = false

-- a change of a cell that can be done: its id has a cell that may become the new one, and the ids that the new one names have cells
pub record IsChange (state : AbstractState) (c : ℕ × Cell) : Type 0 where
  pub old : HasCell (λ old. may_become old c.1) state c.0
  pub names : AllByRecursion (IsThere state) (ids_in c.1)

-- an act that can be done after cells have changed, with its goal: a fresh id that names no ids goes somewhere; what is written, and what
-- it is written into, have cells; an array whose item is read is one of references and hasn't changed; a new instance's class is one of
-- the program's; and the length of a new array has a cell
abbrev pub IsGoodAct : WorldTypes → AbstractState → List (ℕ × Cell) → Act → Goal → Type 0
IsGoodAct types state changed nothing nowhere = Unit {0}
IsGoodAct types state changed (makes cell) on_stack = ids_in cell ≡ []
IsGoodAct types state changed (makes cell) (in_local n) = ids_in cell ≡ []
IsGoodAct types state changed (makes cell) (in_bottom n) = ids_in cell ≡ []
IsGoodAct types state changed (makes cell) (in_field k place) = ids_in cell ≡ []
IsGoodAct types state changed (makes cell) is_thrown = ids_in cell ≡ []
IsGoodAct types state changed (writes write) nowhere = IsThere state write.object × IsThere state write.value
IsGoodAct types state changed (item k) on_stack = HasCell is_array_of_references state k × (cell_in changed k ≡ None)
IsGoodAct types state changed (object class) on_stack = class < types.classes
IsGoodAct types state changed (array slot len) on_stack = IsThere state len
IsGoodAct types state changed _ _ = ⊥

-- a step that can be done: each change of a cell can be done, the ids of its frames and the thrown id have cells, and so does what its
-- act names
pub record IsGoodTurn (types : WorldTypes) (state : AbstractState) (turn : Turn) : Type 0 where
  pub changed : AllByRecursion (IsChange state) turn.changed
  pub frames : AllByRecursion (HoldsIds state) turn.frames
  pub thrown : AllByRecursion (IsThere state) (given_ids (turn.throwing ∷ []))
  pub act : IsGoodAct types state turn.changed turn.act turn.goal

-- a plan that can be done: each of its steps can be done; or the id that it splits by null may be null; or the id that it splits by class
-- is an object of unknown class; or the two ids of which it asks whether they are one object are different and may be equal
abbrev pub IsGoodPlan : WorldTypes → AbstractState → Plan → Type 0
IsGoodPlan types state ends = Unit {0}
IsGoodPlan types state (steps turns) = AllByRecursion (IsGoodTurn types state) turns
IsGoodPlan types state (by_null x) = IsNullable state x
IsGoodPlan types state (by_class x wanted) = IsObjectBelow state x
IsGoodPlan types state (by_equal x y) = AreEqual state x y × (x ≡ y → ⊥)
