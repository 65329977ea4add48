-- The abstract states that have no expansion, by the clause that they break.
use Rattle.std.specs.Prelude.{◌≡◌, ◌≢◌, ℕ, ◌+◌, List, [], ◌∷◌, map, length, take, drop, All, Option, Some, None, slice_get}
use Rattle.std.specs.List.{AllZip}
use Rattle.std.specs.Option.{option_map_or}
use Rattle.jvm_values.specs.declared.types.Slot.{Slot}
use Rattle.jvm_values.specs.declared.types.Slot.TheVariants as slots
use Rattle.jvm_values.specs.declared.typing.PlaceType.{PlaceType}
use Rattle.jvm_values.specs.declared.typing.PlaceType.TheVariants as places
use Rattle.jvm_values.specs.States.{PlaceTypes}
use Rattle.abs_cells.specs.AbstractStates.{AbstractFrame, AbstractState}
use Rattle.abs_cells.specs.Cells.{is_int, HasCell}
use Rattle.abs_cells.specs.Sound.{IsSound}
use Rattle.abs_reach.specs.Instances.{is_no_int}
use Rattle.class_program.specs.class_world.WorldTypes.{types_of}
use Rattle.class_program.specs.declared.op.Op.{Op}
use Rattle.class_program.specs.declared.op.Op.TheVariants as ops
use Rattle.class_program.specs.declared.program.Method.{Method}
use Rattle.class_program.specs.Programs.{Program, op_at}
use Rattle.abs_plans.specs.FrameTypesTables.{CodeTypes}
use Rattle.abs_plans.specs.abs_turns.code_verify.TypedStates.{argument_count}

-- ---- places

-- a position holds an id of its place's type: an int where the typing has an int, and where it has a reference or null an id of no int; a
-- place without a type takes anything, and other places an id
abbrev pub IsOfPlace : AbstractState → PlaceType → Option ℕ → Type 0
IsOfPlace state places.Unset local = Unit {0}
IsOfPlace state places.Int (Some id) = HasCell is_int state id
IsOfPlace state places.Null (Some id) = HasCell is_no_int state id
IsOfPlace state (places.Ref t) (Some id) = HasCell is_no_int state id
IsOfPlace state _ None = ⊥

-- a position of a static field holds an id of the field's type: an int for a field of numbers, and an id of no int for a field of
-- references
abbrev pub IsOfField : AbstractState → Slot → Option ℕ → Type 0
IsOfField state (slots.Num kind) (Some id) = HasCell is_int state id
IsOfField state (slots.Ref t) (Some id) = HasCell is_no_int state id
IsOfField state _ None = ⊥

-- a stack has as many entries as the typing's, each of its place's type
abbrev pub HasStackOf : AbstractState → List PlaceType → List ℕ → Type 0
HasStackOf state wanted stack = AllZip (λ place id. IsOfPlace state place (Some id)) wanted stack

-- ---- frames

-- how many entries a call takes from the stack; none where the instruction isn't a call
abbrev pub call_takes : Op → Option ℕ
call_takes (ops.Invokestatic call) = Some (argument_count (ops.Invokestatic call))
call_takes (ops.Invokespecial call) = Some (argument_count (ops.Invokespecial call))
call_takes (ops.Invokevirtual call) = Some (argument_count (ops.Invokevirtual call))
call_takes (ops.Invokeinterface call) = Some (argument_count (ops.Invokeinterface call))
call_takes _ = None

-- how many entries the call takes at which a frame stands; none where it stands at no call
abbrev pub call_at : Program → AbstractFrame → Option ℕ
call_at p frame = option_map_or call_takes (op_at p.methods frame.method frame.pc) None

-- a frame is as the typing has it there: its method is one of the program's, the typing has its place, and its locals, after which the
-- static fields' ids follow in the bottom frame, are as many and of such types as the method and the typing say
pub record IsPlaced (p : Program) (typing : ℕ → CodeTypes) (state : AbstractState) (statics : List Slot) (frame : AbstractFrame)
    (there : PlaceTypes) : Type 0 where
  pub method : Method
  pub is_method : slice_get p.methods frame.method ≡ Some method
  pub is_there : typing frame.method frame.pc ≡ Some there
  pub count : length frame.locals ≡ method.max_locals + length statics
  pub locals : AllZip (IsOfPlace state) there.locals (take method.max_locals frame.locals)
  pub fields : AllZip (IsOfField state) statics (drop method.max_locals frame.locals)

-- the types of the static fields whose ids follow a frame's locals: all where no frame is below it, and none else
abbrev pub statics_under : Program → List AbstractFrame → List Slot
statics_under p [] = map (λ field. field.slot) p.statics
statics_under p (frame ∷ below) = []

-- a caller's stack has the types of its place without the call's arguments; that of a frame at no call isn't looked at
abbrev pub HasCallersStack : AbstractState → Option ℕ → List PlaceType → List ℕ → Type 0
HasCallersStack state None wanted stack = Unit {0}
HasCallersStack state (Some count) wanted stack = HasStackOf state (drop count wanted) stack

-- a frame below the running one is as the typing has it there, and so is its stack but for the arguments of its call
pub record IsCallerPlaced (p : Program) (typing : ℕ → CodeTypes) (state : AbstractState) (statics : List Slot)
    (frame : AbstractFrame) : Type 0 where
  pub there : PlaceTypes
  pub placed : IsPlaced p typing state statics frame there
  pub stack : HasCallersStack state (call_at p frame) there.stack frame.stack

-- each frame below the running one is as the typing has it there
abbrev pub AreCallersPlaced : Program → (ℕ → CodeTypes) → AbstractState → List AbstractFrame → Type 0
AreCallersPlaced p typing state [] = Unit {0}
AreCallersPlaced p typing state (frame ∷ below) = IsCallerPlaced p typing state (statics_under p below) frame
    × AreCallersPlaced p typing state below

-- the running frame's stack has the types of its place; while a handler is looked for it is empty
abbrev pub HasRunningStack : AbstractState → Option ℕ → List PlaceType → List ℕ → Type 0
HasRunningStack state None wanted stack = HasStackOf state wanted stack
HasRunningStack state (Some thrown) wanted stack = stack ≡ []

-- the running frame is as the typing has it there, with its stack
pub record IsRunningPlaced (p : Program) (typing : ℕ → CodeTypes) (state : AbstractState) (statics : List Slot)
    (frame : AbstractFrame) : Type 0 where
  pub there : PlaceTypes
  pub placed : IsPlaced p typing state statics frame there
  pub stack : HasRunningStack state state.throwing there.stack frame.stack

-- all frames of a state are as the typing has them there
abbrev pub ArePlaced : Program → (ℕ → CodeTypes) → AbstractState → List AbstractFrame → Type 0
ArePlaced p typing state [] = Unit {0}
ArePlaced p typing state (frame ∷ below) = IsRunningPlaced p typing state (statics_under p below) frame
    × AreCallersPlaced p typing state below

-- the frames below the running one
abbrev pub below_running : List AbstractFrame → List AbstractFrame
below_running [] = []
below_running (frame ∷ below) = below

-- each frame below the running one stands at a call
abbrev pub AreAtCalls : Program → List AbstractFrame → Type 0
AreAtCalls p frames = All (λ (frame : AbstractFrame). call_at p frame ≢ None) (below_running frames)

-- ---- clauses

-- an abstract state has an expansion: it is sound, each of its positions is as the typing has it, and each frame below the running one
-- stands at a call
pub record IsGoodState (p : Program) (typing : ℕ → CodeTypes) (state : AbstractState) : Type 0 where
  pub sound : IsSound (types_of p.world) state
  pub placed : ArePlaced p typing state state.frames
  pub called : AreAtCalls p state.frames

-- the number of the first clause that a state without an expansion breaks: 1, it isn't sound; 2, a position isn't as the typing has it;
-- 3, a frame below the running one doesn't stand at a call
pub data IsBadState (p : Program) (typing : ℕ → CodeTypes) (state : AbstractState) : ℕ → Type 0 where
  unsound : (IsSound (types_of p.world) state → ⊥) → IsBadState p typing state 1
  misplaced : IsSound (types_of p.world) state → (ArePlaced p typing state state.frames → ⊥) → IsBadState p typing state 2
  uncalled : IsSound (types_of p.world) state → ArePlaced p typing state state.frames → (AreAtCalls p state.frames → ⊥)
      → IsBadState p typing state 3
