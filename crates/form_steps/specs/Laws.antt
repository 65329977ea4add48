-- What fits an abstract state stays when its frames change.
use Rattle.std.specs.Prelude.{ℕ, List, Option}
use Rattle.std.specs.List.{AllZip}
use Rattle.jvm_values.specs.declared.heap.Value.{Value}
use Rattle.jvm_values.specs.declared.state.Mode.{Mode}
use Rattle.jvm_values.specs.States.{MachineFrame, MachineState}
use Rattle.jvm_values.specs.TypedHeaps.{WorldTypes}
use Rattle.abs_cells.specs.AbstractStates.{AbstractFrame, AbstractState}
use Rattle.abs_cells.specs.Fits.{Meaning, FitsFrame, FitsMode, with_statics, Fits}

-- a state with other frames and another thrown id
abbrev pub Moved : AbstractState → List AbstractFrame → Option ℕ → AbstractState
Moved state frames throwing = record { frames = frames; throwing = throwing; cells = state.cells; eq = state.eq; share = state.share }

-- What fits a state fits it with other frames and another thrown id, where these go with the machine's frames, static fields and mode.
abbrev pub MovedStatesFit : Type 0
MovedStatesFit =
    (types : WorldTypes) (state : AbstractState) (machine : MachineState) (meaning : Meaning) (frames : List AbstractFrame)
    (throwing : Option ℕ) (running : List MachineFrame) (mode : Mode) (statics : List Value)
    → Fits types state machine meaning → AllZip (FitsFrame meaning) frames (with_statics statics running) → FitsMode meaning throwing mode
    → Fits types (Moved state frames throwing) (record { frames = running; heap = machine.heap; mode = mode; statics = statics }) meaning
