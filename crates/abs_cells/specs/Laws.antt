-- Laws about abstract states.
use Rattle.std.specs.Prelude.{◌≡◌, ◌≢◌, ℕ, length, Some}
use Rattle.jvm_values.specs.States.{MachineState}
use Rattle.jvm_values.specs.Heaps.{target}
use Rattle.jvm_values.specs.TypedHeaps.{WorldTypes}
use Rattle.abs_cells.specs.AbstractStates.{AbstractState}
use Rattle.abs_cells.specs.Cells.{HasCell, is_known}
use Rattle.abs_cells.specs.Sound.{IsWellFormed}
use Rattle.abs_cells.specs.Fits.{Meaning, Fits}
use Rattle.abs_cells.specs.Patterns.{Pattern, IsPattern}

-- An abstract state that a state of the machine fits has as many frames as the machine.
abbrev pub FittingFramesAgree : Type 0
FittingFramesAgree =
    (types : WorldTypes) (state : AbstractState) (machine : MachineState) (meaning : Meaning)
    → Fits types state machine meaning → length state.frames ≡ length machine.frames

-- In a well-formed abstract state that is fitted two different known ids stand for different objects.
abbrev pub KnownIdsAreApart : Type 0
KnownIdsAreApart =
    (types : WorldTypes) (state : AbstractState) (machine : MachineState) (meaning : Meaning)
    → IsWellFormed state → Fits types state machine meaning
    → (a b o : ℕ) → HasCell is_known state a → HasCell is_known state b → a ≢ b → target (meaning a) ≡ Some o
    → target (meaning b) ≡ Some o → ⊥

-- An id of an abstract state has at most one pattern.
abbrev pub PatternsAreOne : Type 0
PatternsAreOne = (state : AbstractState) (id : ℕ) (p q : Pattern) → IsPattern state id p → IsPattern state id q → p ≡ q
