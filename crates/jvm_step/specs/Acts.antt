-- What a call that runs an instruction answers and leaves, beside the effect that the instruction has.
use Rattle.std.specs.Prelude.{◌≡◌, ℕ, ℤ, Option, Some, None, Result, Ok, Err, slice_set}
use Rattle.jvm_values.specs.declared.heap.Object.{Object}
use Rattle.jvm_values.specs.declared.heap.Heap.{Heap}
use Rattle.jvm_values.specs.declared.heap.Object.TheVariants.{Instance, Nums, Refs}
use Rattle.jvm_step.specs.declared.after.After.{After}
use Rattle.jvm_step.specs.declared.after.After.TheVariants as afters
use Rattle.jvm_step.specs.Effects.{Effect}

-- a call has done an effect: what it was to change is as the effect says, and it answers what is left to do
abbrev pub Did : {X : Type 0} → Effect X → After → X → X → Type 0
Did (Effect.Next x) afters.Next old new = new ≡ x
Did (Effect.Jump place x) (afters.Jump to) old new = (to ≡ place) × (new ≡ x)
Did (Effect.Raise class) (afters.Raise raised) old new = (raised ≡ class) × (new ≡ old)
Did (Effect.Throw r) (afters.Throw thrown) old new = (thrown ≡ r) × (new ≡ old)
Did (Effect.Invoke number count) (afters.Invoke method taken) old new = (method ≡ number) × (taken ≡ count) × (new ≡ old)
Did (Effect.Return value) (afters.Return result) old new = (result ≡ value) × (new ≡ old)
Did effect after old new = ⊥

-- a call has done the effect that the machine's table gives; where the table gives none, nothing is said
abbrev pub Acts : {X : Type 0} → Option (Effect X) → After → X → X → Type 0
Acts (Some effect) after old new = Did effect after old new
Acts None after old new = Unit {0}

-- a call has done the effect that the machine's table gives, or it wants memory and has changed nothing
abbrev pub Tries : {X E : Type 0} → Option (Effect X) → Result After E → X → X → Type 0
Tries effect (Ok after) old new = Acts effect after old new
Tries effect (Err fault) old new = new ≡ old

-- an array of numbers with another number at a place; any other object stays as it is
abbrev pub with_number_in : ℕ → ℤ → Object → Object
with_number_in i n (Instance class fields) = Instance class fields
with_number_in i n (Nums kind items) = Nums kind (slice_set items i n)
with_number_in i n (Refs element items) = Refs element items

-- a heap with another number at a place of an array of numbers
abbrev pub with_number_of : Heap → ℕ → ℕ → ℤ → Object → Heap
with_number_of heap r i n object = record { objects = slice_set heap.objects r (with_number_in i n object) }
