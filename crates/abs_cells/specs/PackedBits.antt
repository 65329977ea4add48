-- Pairs of ids as bits: each id that was ever in a pair has a slot, and each slot a row of bits, one for each slot before it.
use Rattle.std.specs.Prelude.{◌≡◌, ℕ, zero, suc, ◌+◌, ◌*◌, ◌/◌, ◌<◌, ◌≤◌, min, max, Bool, true, false, if◌then◌else◌, List, []}
use Rattle.std.specs.Prelude.{◌∷◌, ◌++◌, length, Option, Some, None, slice_get}
use Rattle.std.specs.Option.{option_and_then}
use Rattle.abs_cells.specs.IdSets.{has_bit}

-- the pairs of `a` with those of the `count` numbers from `b` on that pass a test, rising
abbrev pub row_from : (ℕ → Bool) → ℕ → ℕ → ℕ → List (ℕ × ℕ)
row_from test a b zero = []
row_from test a b (suc count) = if test b then (a, b) ∷ row_from test a (suc b) count else row_from test a (suc b) count

-- the pairs of two of the `count` numbers from `a` on between which a relation holds, the lower number first, rising
abbrev pub pairs_from : (ℕ → ℕ → Bool) → ℕ → ℕ → List (ℕ × ℕ)
pairs_from holds a zero = []
pairs_from holds a (suc count) = row_from (holds a) a (suc a) count ++ pairs_from holds (suc a) count

-- the slot that an id was given, if it was given one
abbrev pub slot_of : List (Option ℕ) → ℕ → Option ℕ
slot_of slots id = option_and_then (λ slot. slot) (slice_get slots id)

-- how many ids were given a slot
abbrev pub slots_in : List (Option ℕ) → ℕ
slots_in [] = 0
slots_in (None ∷ slots) = slots_in slots
slots_in (Some slot ∷ slots) = suc (slots_in slots)

-- the word at which the row of bits of a slot begins: the rows of the lower slots lie before it, each with a bit for every
-- slot up to its own, in whole words
abbrev pub row_start : ℕ → ℕ
row_start zero = 0
row_start (suc slot) = row_start slot + suc (slot / 64)

-- the place of the bit that tells whether two slots are a pair: it is in the row of the higher slot
abbrev pub place_of : ℕ → ℕ → ℕ
place_of s t = 64 * row_start (max s t) + min s t

-- two ids with these slots are a pair: both have a slot, and the bit of the two slots is set
abbrev pub hit_slots : List ℕ → Option ℕ → Option ℕ → Bool
hit_slots words None t = false
hit_slots words (Some s) None = false
hit_slots words (Some s) (Some t) = has_bit words (place_of s t)

-- the bits tell that two ids are a pair
abbrev pub hit : List (Option ℕ) → List ℕ → ℕ → ℕ → Bool
hit slots words a b = hit_slots words (slot_of slots a) (slot_of slots b)

-- all pairs of ids that the bits tell, the lower id first, rising
abbrev pub pairs_in : List (Option ℕ) → List ℕ → List (ℕ × ℕ)
pairs_in slots words = pairs_from (hit slots words) 0 (length slots)

-- slots and bits are in order: slots are given out one after another, each to one id, and the count is their number; the
-- rows of all slots have room, a row has no bit from its own slot on, and none is set past the last row
pub record ArePacked (slots : List (Option ℕ)) (count : ℕ) (words : List ℕ) : Type 0 where
  pub few : length slots ≤ 2048
  pub counted : count ≡ slots_in slots
  pub low : (a s : ℕ) → slot_of slots a ≡ Some s → s < count
  pub apart : (a b s : ℕ) → slot_of slots a ≡ Some s → slot_of slots b ≡ Some s → a ≡ b
  pub rows : row_start count ≤ length words
  pub below : (s t : ℕ) → s < count → s ≤ t → t < 64 * suc (s / 64) → has_bit words (64 * row_start s + t) ≡ false
  pub past : (n : ℕ) → 64 * row_start count ≤ n → has_bit words n ≡ false
