-- Laws about what ids reach, for well-formed states and the machine's states that they describe.
use Rattle.std.specs.Prelude.{◌≡◌, ℕ, List, Some, true}
use Rattle.jvm_values.specs.Paths.{follow}
use Rattle.jvm_values.specs.Heaps.{target, heap_steps, Region, IsTree, IsDag}
use Rattle.jvm_values.specs.States.{MachineState}
use Rattle.jvm_values.specs.TypedHeaps.{WorldTypes}
use Rattle.abs_cells.specs.AbstractStates.{AbstractState}
use Rattle.abs_cells.specs.Cells.{is_known, HasCell}
use Rattle.abs_cells.specs.Sound.{IsWellFormed}
use Rattle.abs_cells.specs.Fits.{Meaning, Fits}
use Rattle.abs_cells.specs.Closures.{MayMeet, MayBeIn, IsFiniteId, IsTreeId}
use Rattle.abs_reach.specs.Ways.{Way}
use Rattle.abs_reach.specs.Reached.{IsRestricted, IsDropped, IsSizedAlike}

-- A path of the heap from an id's object goes along ids, or along ids to a hazy id and then through its region.
abbrev pub ClosuresAreWays : Type 0
ClosuresAreWays =
    (types : WorldTypes) (state : AbstractState) (machine : MachineState) (meaning : Meaning)
    → IsWellFormed state → Fits types state machine meaning
    → (path : List ℕ) (x a b : ℕ) → HasCell (λ _. true) state x → target (meaning x) ≡ Some a
    → follow (heap_steps machine.heap) path a ≡ Some b → Way state machine.heap meaning x path b

-- Two ids whose regions meet are told to be able to meet.
abbrev pub MeetingRegionsMayMeet : Type 0
MeetingRegionsMayMeet =
    (types : WorldTypes) (state : AbstractState) (machine : MachineState) (meaning : Meaning)
    → IsWellFormed state → Fits types state machine meaning
    → (x y o : ℕ) → HasCell (λ _. true) state x → HasCell (λ _. true) state y → Region machine.heap (meaning x) o
    → Region machine.heap (meaning y) o → MayMeet state x y

-- A known id whose object lies in the region of another id is told to be able to lie in it.
abbrev pub KnownIdsInsideMayBeIn : Type 0
KnownIdsInsideMayBeIn =
    (types : WorldTypes) (state : AbstractState) (machine : MachineState) (meaning : Meaning)
    → IsWellFormed state → Fits types state machine meaning
    → (k x o : ℕ) → HasCell is_known state k → HasCell (λ _. true) state x → target (meaning k) ≡ Some o
    → Region machine.heap (meaning x) o → MayBeIn state k x

-- The region of an id that is told to have no cycle has none.
abbrev pub FiniteIdsHaveNoCycles : Type 0
FiniteIdsHaveNoCycles =
    (types : WorldTypes) (state : AbstractState) (machine : MachineState) (meaning : Meaning)
    → IsWellFormed state → Fits types state machine meaning
    → (x : ℕ) → HasCell (λ _. true) state x → IsFiniteId state x → IsDag machine.heap (meaning x)

-- The region of an id that is told to be a tree is one.
abbrev pub TreeIdsHaveTrees : Type 0
TreeIdsHaveTrees =
    (types : WorldTypes) (state : AbstractState) (machine : MachineState) (meaning : Meaning)
    → IsWellFormed state → Fits types state machine meaning
    → (x : ℕ) → HasCell (λ _. true) state x → IsTreeId state x → IsTree machine.heap (meaning x)

-- What fits an abstract state still fits it after some of its ids went.
abbrev pub RestrictedStatesFit : Type 0
RestrictedStatesFit =
    (types : WorldTypes) (whole part : AbstractState) (machine : MachineState) (meaning : Meaning)
    → IsRestricted whole part → Fits types whole machine meaning → Fits types part machine meaning

-- An id that stays when the unreached ones are dropped has a size exactly where it had one before, with the same pattern.
abbrev pub DroppedIdsKeepSizes : Type 0
DroppedIdsKeepSizes =
    (whole part : AbstractState) (id : ℕ) → IsDropped whole part → HasCell (λ _. true) part id → IsSizedAlike part whole id
