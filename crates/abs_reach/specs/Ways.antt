-- How a path of a heap goes along the ids of a state that describes it.
use Rattle.std.specs.Prelude.{◌≡◌, ℕ, List, ◌++◌, ◌⊎◌, Some}
use Rattle.jvm_values.specs.declared.heap.Heap.{Heap}
use Rattle.jvm_values.specs.Paths.{follow}
use Rattle.jvm_values.specs.Heaps.{target, heap_steps}
use Rattle.abs_cells.specs.AbstractStates.{AbstractState}
use Rattle.abs_cells.specs.Cells.{is_known, is_hazy, HasCell}
use Rattle.abs_cells.specs.Closures.{counted_steps}
use Rattle.abs_cells.specs.Fits.{Meaning}

-- a path of the heap goes along ids: the same path leads over known cells to a known id, and ends at that id's object
pub record GoesByIds (state : AbstractState) (meaning : Meaning) (x : ℕ) (path : List ℕ) (b : ℕ) : Type 0 where
  pub y : ℕ
  pub leads : follow (counted_steps state) path x ≡ Some y
  pub known : HasCell is_known state y
  pub names : target (meaning y) ≡ Some b

-- a path of the heap goes through a hazy region: its front leads over known cells to a hazy id, and its rest goes from that
-- id's object to the end, in the region of the id
pub record GoesThrough (state : AbstractState) (heap : Heap) (meaning : Meaning) (x : ℕ) (path : List ℕ) (b : ℕ) : Type 0 where
  pub front : List ℕ
  pub back : List ℕ
  pub splits : path ≡ front ++ back
  pub q : ℕ
  pub leads : follow (counted_steps state) front x ≡ Some q
  pub hazy : HasCell is_hazy state q
  pub c : ℕ
  pub names : target (meaning q) ≡ Some c
  pub rest : follow (heap_steps heap) back c ≡ Some b

-- a path of the heap from an id's object goes along ids to its end, or along ids to a hazy id and then through its region
abbrev pub Way : AbstractState → Heap → Meaning → ℕ → List ℕ → ℕ → Type 0
Way state heap meaning x path b = GoesByIds state meaning x path b ⊎ GoesThrough state heap meaning x path b
