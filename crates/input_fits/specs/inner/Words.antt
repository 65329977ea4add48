-- Words for this crate's own calls.
use Rattle.std.specs.Prelude.{◌≡◌, ◌⊎◌, ℕ, ◌<◌, List, ◌++◌, length, slice_get, Some, Contains}
use Rattle.std.specs.List.{AllZip}
use Rattle.jvm_values.specs.declared.heap.Value.{Value}
use Rattle.jvm_values.specs.declared.heap.Heap.{Heap}
use Rattle.jvm_values.specs.Heaps.{target, Region}
use Rattle.jvm_values.specs.TypedHeaps.{WorldTypes}
use Rattle.input_desc.specs.declared.desc.Desc.{Desc}
use Rattle.input_desc.specs.Fitting.{FitsInput, IsListed}

-- a pair is of two numbers, in either order
abbrev pub IsPairOf : ℕ → ℕ → ℕ × ℕ → Type 0
IsPairOf i j pair = ((pair.0 ≡ i) × (pair.1 ≡ j)) ⊎ ((pair.0 ≡ j) × (pair.1 ≡ i))

-- two values name one object
abbrev pub NameOne : Value → Value → Type 0
NameOne v w = (o : ℕ) × ((target v ≡ Some o) × (target w ≡ Some o))

-- two lists have a number in common
abbrev pub HaveCommon : List ℕ → List ℕ → Type 0
HaveCommon a b = (o : ℕ) × (Contains a o × Contains b o)

-- of the items before a place `count`, those that meet the item at place i are listed with it
abbrev pub AreListedWith : {A : Type 0} → (A → A → Type 0) → List A → List (ℕ × ℕ) → ℕ → ℕ → Type 0
AreListedWith {A = A} Meets xs pairs i count = (j : ℕ) (x y : A) → j < count → slice_get xs j ≡ Some x → slice_get xs i ≡ Some y
    → Meets x y → IsListed j i pairs

-- of the items before a place, each two that meet are listed as a pair
abbrev pub AreListedBefore : {A : Type 0} → (A → A → Type 0) → List A → List (ℕ × ℕ) → ℕ → Type 0
AreListedBefore {A = A} Meets xs pairs count = (i : ℕ) → i < count → AreListedWith Meets xs pairs i i

-- any two items of a list that meet are listed as a pair
abbrev pub AreListed : {A : Type 0} → (A → A → Type 0) → List A → List (ℕ × ℕ) → Type 0
AreListed {A = A} Meets xs pairs = AreListedBefore Meets xs pairs (length xs)

-- two values reach one object
abbrev pub Share : Heap → Value → Value → Type 0
Share heap v w = (o : ℕ) × (Region heap v o × Region heap w o)

-- Values are what is described of the inputs: each by itself, and two of them are one object, or reach one, only where they are listed.
pub record FitTogether (types : WorldTypes) (desc : Desc) (heap : Heap) (values : List Value) : Type 0 where
  pub each : AllZip (FitsInput types heap) desc.inputs values
  pub same : AreListed NameOne values desc.same
  pub share : AreListed (Share heap) values (desc.same ++ desc.share)
