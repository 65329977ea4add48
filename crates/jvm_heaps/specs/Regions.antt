-- Regions as rising lists of numbers.
use Rattle.std.specs.Prelude.{ℕ, suc, ◌≤◌, ◌↔◌, Bool, true, false, List, [], ◌∷◌, Contains}
use Rattle.jvm_values.specs.declared.heap.Value.{Value}
use Rattle.jvm_values.specs.declared.heap.Heap.{Heap}
use Rattle.jvm_values.specs.Heaps.{Region}

-- each number is at least `low`, and above the one before
abbrev pub RiseFrom : ℕ → List ℕ → Type 0
RiseFrom low [] = Unit {0}
RiseFrom low (n ∷ numbers) = (low ≤ n) × RiseFrom (suc n) numbers

-- exactly the numbers of a value's region, rising
pub record IsRegion (heap : Heap) (value : Value) (numbers : List ℕ) : Type 0 where
  pub rising : RiseFrom 0 numbers
  pub exact : (b : ℕ) → Contains numbers b ↔ Region heap value b

-- the places of the marks that are set, counted from a number on
unfoldable pub marked_from : ℕ → List Bool → List ℕ
marked_from n [] = []
marked_from n (true ∷ marks) = n ∷ marked_from (suc n) marks
marked_from n (false ∷ marks) = marked_from (suc n) marks
