-- The states that a description fits, and what is known of them.
use Rattle.std.specs.Prelude.{◌≤◌, ℕ, List, ◌++◌, length, slice_get}
use Rattle.std.specs.Option.{unwrap_or}
use Rattle.jvm_values.specs.declared.heap.Value.{Value}
use Rattle.jvm_values.specs.declared.heap.Value.TheVariants.{Null}
use Rattle.jvm_values.specs.States.{MachineState}
use Rattle.input_desc.specs.ClassWorldWorldTypes.{types_of}
use Rattle.input_desc.specs.ClassProgramPrograms.{Program, IsClosed}
use Rattle.abs_cells.specs.Fits.{Meaning, Fits}
use Rattle.abs_cells.specs.Sound.{IsSound}
use Rattle.abs_cells.specs.Limits.{most_ids}
use Rattle.code_verify.specs.FrameTypesTables.{CodeTypes}
use Rattle.code_verify.specs.Typings.{IsTypingOf}
use Rattle.code_verify.specs.TypedStates.{IsTypedState}
use Rattle.input_desc.specs.declared.desc.Desc.{Desc}
use Rattle.input_desc.specs.Descs.{IsOwnDesc}
use Rattle.input_desc.specs.Fitting.{FitsDescription}
use Rattle.input_desc.specs.Initial.{initial_of}

-- each id stands for the value of the input of its number
abbrev pub input_values : List Value → Meaning
input_values values id = unwrap_or (slice_get values id) Null

-- A state that fits a program's own description has the types of the program's typing.
abbrev pub FittingStatesAreTyped : Type 0
FittingStatesAreTyped =
    (p : Program) (desc : Desc) (typing : ℕ → CodeTypes) (state : MachineState)
    → IsClosed p → IsTypingOf p typing → IsOwnDesc p desc
    → FitsDescription p desc state → IsTypedState p typing state

-- The initial abstract state of a description describes each state that fits it.
abbrev pub FittingStatesAreDescribed : Type 0
FittingStatesAreDescribed =
    (p : Program) (desc : Desc) (state : MachineState)
    → IsClosed p → IsOwnDesc p desc
    → (fits : FitsDescription p desc state)
    → Fits (types_of p.world) (initial_of p desc) state (input_values (fits.args ++ state.statics))

-- The initial abstract state of a description is sound for the program's types: it is well-formed, and what its cells say is of
-- the world.
abbrev pub RootsAreSound : Type 0
RootsAreSound = (p : Program) (desc : Desc) → IsClosed p → IsOwnDesc p desc → IsSound (types_of p.world) (initial_of p desc)

-- The initial abstract state of a description has at most as many ids as an abstract state may have.
abbrev pub RootsHaveFewIds : Type 0
RootsHaveFewIds = (p : Program) (desc : Desc) → IsOwnDesc p desc → length (initial_of p desc).cells ≤ most_ids
