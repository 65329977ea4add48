-- The states from which a graph grows. Their children and their widenings are such states too.
use Rattle.std.specs.Prelude.{◌≡◌, ℕ, true, List, [], ◌∷◌, Some}
use Rattle.abs_cells.specs.AbstractStates.{AbstractFrame, AbstractState}
use Rattle.abs_cells.specs.Cells.{HasCell}
use Rattle.abs_reach.specs.Reached.{IsReached}
use Rattle.class_program.specs.declared.op.Op.{Op}
use Rattle.class_program.specs.Programs.{Program, op_at}
use Rattle.class_program.specs.Selected.{CanRun}
use Rattle.frame_types.specs.Tables.{CodeTypes}
use Rattle.abs_expand.specs.BadStates.{IsGoodState}

-- a frame waits for the method of a number: it stands at a call that can run it
pub record IsWaiting (p : Program) (callee : ℕ) (frame : AbstractFrame) : Type 0 where
  pub op : Op
  pub stands : op_at p.methods frame.method frame.pc ≡ Some op
  pub runs : CanRun p op callee

-- the frames below one of a method of that number: each waits for the one above it
abbrev pub AreWaiting : Program → ℕ → List AbstractFrame → Type 0
AreWaiting p callee [] = Unit {0}
AreWaiting p callee (frame ∷ below) = IsWaiting p callee frame × AreWaiting p frame.method below

-- each frame below the running one waits for the one above it
abbrev pub WaitBelow : Program → List AbstractFrame → Type 0
WaitBelow p [] = Unit {0}
WaitBelow p (frame ∷ below) = AreWaiting p frame.method below

-- Each id with a cell is reached: it stands at a position, or cells lead to it from there.
abbrev pub HasAllReached : AbstractState → Type 0
HasAllReached state = (id : ℕ) → HasCell (λ _. true) state id → IsReached state id

-- The state has an expansion, its frames wait for those above them, and all its ids are reached. That callers stand at
-- calls alone wouldn't do: what a method returns must be what its caller waits for.
pub record IsGrowing (p : Program) (typing : ℕ → CodeTypes) (state : AbstractState) : Type 0 where
  pub good : IsGoodState p typing state
  pub waiting : WaitBelow p state.frames
  pub reached : HasAllReached state
