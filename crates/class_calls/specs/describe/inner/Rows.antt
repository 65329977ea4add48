-- Pairs that are listed, as far as they were looked for.
use Rattle.std.specs.Prelude.{◌≡◌, ℕ, ◌<◌, List, slice_get, Some, IsTrue}
use Rattle.jvm_values.specs.declared.types.Slot.{Slot}
use Rattle.class_world.specs.World.{World}
use Rattle.input_desc.specs.Fitting.{IsListed}
use Rattle.class_calls.specs.declared.describe.inputs.Listed.{Listed}
use Rattle.class_calls.specs.describe.Whole.{is_wanted}

-- of input j with each input below a number
abbrev pub AreListedTo : World → Listed → List Slot → List (ℕ × ℕ) → ℕ → ℕ → Type 0
AreListedTo world listed slots' pairs j count = (i : ℕ) (a b : Slot) → i < count → slice_get slots' i ≡ Some a
    → slice_get slots' j ≡ Some b → IsTrue (is_wanted world listed a b) → IsListed i j pairs

-- of each input below a number with each one before it
abbrev pub AreListedBelow : World → Listed → List Slot → List (ℕ × ℕ) → ℕ → Type 0
AreListedBelow world listed slots' pairs count = (j : ℕ) → j < count → AreListedTo world listed slots' pairs j j
