-- What holds of runs from states that have the types of a program's least typing (JVM specification, section 4.10).
use Rattle.std.specs.Prelude.{◌≡◌, ℕ, List, slice_get, Some}
use Rattle.std.specs.List.{AllZip}
use Rattle.jvm_values.specs.declared.heap.Value.{Value}
use Rattle.jvm_values.specs.declared.heap.Heap.{Heap}
use Rattle.jvm_values.specs.States.{MachineState}
use Rattle.jvm_values.specs.TypedHeaps.{Holds, IsTypedHeap}
use Rattle.class_program.specs.class_world.WorldTypes.{types_of}
use Rattle.class_program.specs.declared.program.Method.{Method}
use Rattle.class_program.specs.Programs.{Program, IsClosed}
use Rattle.class_program.specs.Widths.{HasWidths}
use Rattle.code_verify.specs.FrameTypesTables.{CodeTypes}
use Rattle.code_verify.specs.Typings.{IsTypingOf}
use Rattle.code_verify.specs.Operands.{place_of}
use Rattle.code_verify.specs.TypedStates.{HasPlaceType, IsTypedState}
use Rattle.jvm_step.specs.Running.{Step, step, run, start, IsNeverStuck}

-- what a step gives is typed: it is not stuck, and where the run goes on, the state has the types of the program's typing
abbrev pub GoesTyped : Program → (ℕ → CodeTypes) → Step → Type 0
GoesTyped p typing (Step.Going state) = IsTypedState p typing state
GoesTyped p typing (Step.Returned value) = Unit {0}
GoesTyped p typing (Step.Threw r) = Unit {0}
GoesTyped p typing Step.Stuck = ⊥

-- One step from a typed state of a closed program, whose methods have typings and whose numbers are of their fields'
-- widths, is not stuck and leads to a typed state. Instructions are lists here, in which a number can be any.
abbrev pub StepsAreTyped : Type 0
StepsAreTyped =
    (p : Program) (typing : ℕ → CodeTypes) → IsClosed p → HasWidths p → IsTypingOf p typing
    → (state : MachineState) → IsTypedState p typing state → GoesTyped p typing (step p state)

-- So many steps from a typed state of a closed program are not stuck and lead to a typed state.
abbrev pub RunsAreTyped : Type 0
RunsAreTyped =
    (p : Program) (typing : ℕ → CodeTypes) → IsClosed p → HasWidths p → IsTypingOf p typing
    → (state : MachineState) → IsTypedState p typing state → (count : ℕ) → GoesTyped p typing (run p count state)

-- No number of steps from a typed state of a closed program makes the run stuck.
abbrev pub RunsAreNeverStuck : Type 0
RunsAreNeverStuck =
    (p : Program) (typing : ℕ → CodeTypes) → IsClosed p → HasWidths p → IsTypingOf p typing
    → (state : MachineState) → IsTypedState p typing state → IsNeverStuck p state

-- values are such as a program takes: arguments of the types of its entry's parameters, values of the types of its static
-- fields, and a typed heap
pub record AreInputs (p : Program) (arguments statics : List Value) (heap : Heap) : Type 0 where
  pub entry : Method
  pub is_entry : slice_get p.methods 0 ≡ Some entry
  pub arguments_typed : AllZip (λ slot value. HasPlaceType (types_of p.world) heap (place_of (types_of p.world) slot) (Some value))
      entry.params arguments
  pub statics_typed : AllZip (λ field value. Holds (types_of p.world) heap field.slot value) p.statics statics
  pub heap_typed : IsTypedHeap (types_of p.world) heap

-- The run of a closed program from values that it takes begins in a typed state.
abbrev pub StartsAreTyped : Type 0
StartsAreTyped =
    (p : Program) (typing : ℕ → CodeTypes) → IsClosed p → IsTypingOf p typing
    → (arguments statics : List Value) (heap : Heap) → AreInputs p arguments statics heap
    → (state : MachineState) → start p arguments statics heap ≡ Some state → IsTypedState p typing state
