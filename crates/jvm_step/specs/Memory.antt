-- What a step wants memory for: an object or a frame more, or a stack that is longer than its room.
use Rattle.std.specs.Prelude.{◌≡◌, ℕ, ◌<◌, ◌≤◌, ◌⊎◌, All, List, [], ◌∷◌, length, slice_get, Option, Some, None}
use Rattle.jvm_values.specs.declared.heap.Value.{Value}
use Rattle.jvm_values.specs.declared.heap.Heap.{Heap}
use Rattle.jvm_values.specs.declared.state.Frame.{Frame}
use Rattle.jvm_values.specs.States.{MachineFrame, MachineState}
use Rattle.class_program.specs.declared.program.CatchRange.{CatchRange}
use Rattle.class_program.specs.declared.program.Method.{Method}
use Rattle.class_program.specs.Programs.{Program}
use Rattle.op_forms.specs.Forms.{Form}
use Rattle.jvm_step.specs.Effects.{Effect}
use Rattle.jvm_step.specs.Table.{Work, effect_of}
use Rattle.jvm_step.specs.Running.{Step, with_result}
use Rattle.jvm_step.specs.Steps.{HasRoom, work_seen}

-- a frame's operand stack is no longer than its method says (JVM specification 2.6.2)
abbrev pub IsShort : List Method → MachineFrame → Type 0
IsShort methods frame = (m : Method) → slice_get methods frame.method ≡ Some m → length frame.stack ≤ m.max_stack

-- A step takes no memory that is not there: the frames in the code have room for what their methods say, and it makes no
-- object and no frame, and leaves no operand stack that is too long.
pub record IsLight (methods : List Method) (frames : List Frame) (old next : MachineState) : Type 0 where
  pub room : All (HasRoom methods) frames
  pub no_frame : length next.frames ≤ length old.frames
  pub no_object : length next.heap.objects ≤ length old.heap.objects
  pub short : All (IsShort methods) next.frames

-- A step wants no memory: one to another state takes none that is not there, and one that ends the run takes none at all.
abbrev pub TakesNone : List Method → List Frame → MachineState → Step → Type 0
TakesNone methods frames old (Step.Going next) = IsLight methods frames old next
TakesNone methods frames old (Step.Returned value) = Unit {0}
TakesNone methods frames old (Step.Threw r) = Unit {0}
TakesNone methods frames old Step.Stuck = ⊥

-- ---- parts of a step

-- an effect makes an object or a frame, or an operand stack that is longer than its room; nothing is said where there is no
-- effect
abbrev pub Wants : ℕ → Work → Option (Effect Work) → Type 0
Wants room old None = Unit {0}
Wants room old (Some (Effect.Next work)) = (length old.heap.objects < length work.heap.objects)
    ⊎ ((work.frame.method ≡ old.frame.method) × (room < length work.frame.stack))
Wants room old (Some (Effect.Jump place work)) = ⊥
Wants room old (Some (Effect.Raise class)) = Unit {0}
Wants room old (Some (Effect.Throw r)) = ⊥
Wants room old (Some (Effect.Invoke number count)) = Unit {0}
Wants room old (Some (Effect.Return value)) = ⊥

-- the effect of the running frame's instruction makes an object or a frame, or an operand stack that is longer than its
-- room
abbrev pub WantsIn : Program → Method → Form → List Value → Heap → List Frame → Type 0
WantsIn p m form statics heap [] = ⊥
WantsIn p m form statics heap (frame ∷ below) = Wants frame.stack.1 (work_seen frame statics heap)
    (effect_of p m form (work_seen frame statics heap))

-- the running frame's caller has no room for the result of the call
abbrev pub CallerLacks : Option Value → List Frame → Type 0
CallerLacks value [] = ⊥
CallerLacks value (frame ∷ []) = ⊥
CallerLacks value (frame ∷ caller ∷ below) = caller.stack.1 < length (with_result value caller.stack.0)

-- the running frame's operand stack has room for no value
abbrev pub TopLacks : List Frame → Type 0
TopLacks [] = ⊥
TopLacks (frame ∷ below) = frame.stack.1 ≡ 0

-- a handler was found, and the operand stack of its frame has room for no value
abbrev pub CatchLacks : Option CatchRange → List Frame → Type 0
CatchLacks None frames = ⊥
CatchLacks (Some range) frames = TopLacks frames
