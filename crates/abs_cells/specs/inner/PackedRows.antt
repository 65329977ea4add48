-- Words of private calls: rows of packed bits, and what the turns of the calls on them change.
use Rattle.std.specs.Prelude.{◌≡◌, ℕ, suc, ◌+◌, ◌-◌, ◌*◌, ◌/◌, ◌<◌, ◌≤◌, Bool, true, false, List, length, Option, Some}
use Rattle.std.specs.Int.{bit_at}
use Rattle.abs_cells.specs.PairLists.{has_pair}
use Rattle.abs_cells.specs.IdSets.{has_bit, has_id}
use Rattle.abs_cells.specs.PackedBits.{row_from, slot_of, row_start, hit, ArePacked}

-- whenever a relation holds between an id and a higher one, another relation does as well
abbrev pub IsRowAmong : (ℕ → ℕ → Bool) → (ℕ → ℕ → Bool) → ℕ → Type 0
IsRowAmong some others a = (b : ℕ) → a < b → some a b ≡ true → others a b ≡ true

-- the pairs that the bits tell of an id with higher ids, rising
abbrev pub whole_row : List (Option ℕ) → List ℕ → ℕ → List (ℕ × ℕ)
whole_row slots words a = row_from (hit slots words a) a (suc a) (length slots - suc a)

-- slots and bits after some ids were given slots: those that had one keep it, and the bits tell the same pairs
pub record IsGrown (slots : List (Option ℕ)) (words : List ℕ) (now : List (Option ℕ)) (count : ℕ) (words_now : List ℕ) : Type 0 where
  pub packed : ArePacked now count words_now
  pub kept : (a s : ℕ) → slot_of slots a ≡ Some s → slot_of now a ≡ Some s
  pub same : (a b : ℕ) → hit now words_now a b ≡ hit slots words a b

-- in the row of a slot a bit is set for a slot that is in a set
pub record RowMeets (words : List ℕ) (s : ℕ) (mask : List ℕ) : Type 0 where
  pub t : ℕ
  pub low : t < 64 * suc (s / 64)
  pub bit : has_bit words (64 * row_start s + t) ≡ true
  pub masked : has_id mask t ≡ true

-- some id of a set has a slot
pub record HasSlot (slots : List (Option ℕ)) (set : List ℕ) (s : ℕ) : Type 0 where
  pub id : ℕ
  pub slot : slot_of slots id ≡ Some s
  pub is_in : has_id set id ≡ true

-- some slot of one set has a row in which a bit is set for a slot of another set
pub record SideMeets (words : List ℕ) (count : ℕ) (xs ys : List ℕ) : Type 0 where
  pub s : ℕ
  pub low : s < count
  pub is_in : has_id xs s ≡ true
  pub meets : RowMeets words s ys

-- two words have a bit in common
pub record AreBothSet (a b : ℕ) : Type 0 where
  pub bit : ℕ
  pub low : bit < 64
  pub left : bit_at a bit ≡ 1
  pub right : bit_at b bit ≡ 1

-- of a list of pairs those of `a` with numbers below `b` went, and no others
pub record IsCleared (old now : List (ℕ × ℕ)) (a b : ℕ) : Type 0 where
  pub gone : (p : ℕ × ℕ) → p.0 < p.1 → has_pair p now ≡ true → (has_pair p old ≡ true) × ((p.0 ≡ a → b ≤ p.1) × (p.1 ≡ a → b ≤ p.0))
  pub kept : (p : ℕ × ℕ) → p.0 < p.1 → has_pair p old ≡ true → (p.0 ≡ a → b ≤ p.1) → (p.1 ≡ a → b ≤ p.0) → has_pair p now ≡ true

-- of a list of pairs those went that have an id below `a` which is not in a set, and no others
pub record IsKeptTo (ids : List ℕ) (old now : List (ℕ × ℕ)) (a : ℕ) : Type 0 where
  pub gone : (p : ℕ × ℕ) → p.0 < p.1 → has_pair p now ≡ true
      → (has_pair p old ≡ true) × ((p.0 < a → has_id ids p.0 ≡ true) × (p.1 < a → has_id ids p.1 ≡ true))
  pub kept : (p : ℕ × ℕ) → p.0 < p.1 → has_pair p old ≡ true → (p.0 < a → has_id ids p.0 ≡ true) → (p.1 < a → has_id ids p.1 ≡ true)
      → has_pair p now ≡ true
