-- Pairs of inputs.
use Rattle.std.specs.Prelude.{◌≢◌, ℕ, ◌<◌, ◌==◌, ◌&&◌, not, Bool, false, List, slice_get}
use Rattle.std.specs.Option.{option_map_or}
use Rattle.jvm_values.specs.declared.types.Slot.{Slot}
use Rattle.jvm_values.specs.Slots.{is_reference_slot}

-- the input of a number is a reference
abbrev pub is_reference_at : List Slot → ℕ → Bool
is_reference_at wanted n = option_map_or is_reference_slot (slice_get wanted n) false

-- a pair is of two different reference inputs
abbrev pub is_pair : List Slot → ℕ × ℕ → Bool
is_pair wanted pair = not (pair.0 == pair.1) && (is_reference_at wanted pair.0 && is_reference_at wanted pair.1)

-- a pair is of one input alone, or of an input that is no reference
abbrev pub is_no_pair : List Slot → ℕ × ℕ → Bool
is_no_pair wanted pair = not (is_pair wanted pair)

-- a pair is of two different numbers below a count
abbrev pub IsPairBelow : ℕ → ℕ × ℕ → Type 0
IsPairBelow count pair = (pair.0 ≢ pair.1) × ((pair.0 < count) × (pair.1 < count))
