-- What a match of two abstract states carries over, and states all of whose ids are reached.
use Rattle.std.specs.Prelude.{◌≡◌, ℕ, true, List, Option, Some, None, slice_get}
use Rattle.jvm_values.specs.declared.heap.Value.{Value}
use Rattle.jvm_values.specs.declared.heap.Value.TheVariants as values
use Rattle.jvm_values.specs.declared.heap.Object.TheVariants as objects
use Rattle.jvm_values.specs.declared.heap.Heap.{Heap}
use Rattle.jvm_values.specs.declared.types.Ty.{Ty}
use Rattle.jvm_values.specs.Subtyping.{array_of, IsReference}
use Rattle.jvm_values.specs.States.{MachineState}
use Rattle.jvm_values.specs.TypedHeaps.{WorldTypes, AreLawful}
use Rattle.abs_cells.specs.AbstractStates.{AbstractState}
use Rattle.abs_cells.specs.Sound.{IsWellFormed}
use Rattle.abs_cells.specs.Fits.{Meaning, Fits}
use Rattle.abs_cells.specs.Cells.{HasCell}
use Rattle.abs_reach.specs.Instances.{image_in, InstanceOf}
use Rattle.abs_reach.specs.Reached.{IsReached, IsDropped}

-- the value of an id's image; null where there is none
abbrev pub value_of_image : Meaning → Option ℕ → Value
value_of_image meaning None = values.Null
value_of_image meaning (Some image) = meaning image

-- the meaning after the map: each id has its image's value
abbrev pub after : Meaning → List (ℕ × ℕ) → Meaning
after meaning entries id = value_of_image meaning (image_in entries id)

-- each array of references is itself of a type of the world, as in every typed heap
abbrev pub HasArraysOfWorld : WorldTypes → Heap → Type 0
HasArraysOfWorld types heap = (place : ℕ) (element : Ty) (items : List Value)
    → slice_get heap.objects place ≡ Some (objects.Refs element items) → IsReference types.classes (array_of element)

-- What is left of a state without the ids that its positions don't reach has only ids that its positions reach.
abbrev pub DroppedStatesReachAll : Type 0
DroppedStatesReachAll = (whole part : AbstractState) → IsDropped whole part → (id : ℕ) → HasCell (λ _. true) part id → IsReached part id

-- Whatever fits a state fits each state of which it is an instance, by the map.
abbrev pub MatchesCarryFitting : Type 0
MatchesCarryFitting =
    (types : WorldTypes) (state target : AbstractState) (entries : List (ℕ × ℕ)) (machine : MachineState) (meaning : Meaning)
    → AreLawful types → HasArraysOfWorld types machine.heap
    → IsWellFormed state → InstanceOf types.sub state target entries → Fits types state machine meaning
    → Fits types target machine (after meaning entries)
