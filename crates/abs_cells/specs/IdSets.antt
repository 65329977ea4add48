-- Sets of ids, as tests, and the pairs that two of them touch.
use Rattle.std.specs.Prelude.{ℕ, ◌==◌, filter, ◌/◌, ◌%◌, Bool, ◌&&◌, ◌||◌, List, slice_index}
use Rattle.std.specs.List.{list_any}
use Rattle.std.specs.Int.{bit_at}

-- a bit is set in a row of words of 64 bits, which are numbered from the lowest bit of the first word on; past the row's
-- end none is
abbrev pub has_bit : List ℕ → ℕ → Bool
has_bit words n = bit_at (slice_index words (n / 64)) (n % 64) == 1

-- a set of ids, numbers below 2,048, has an id. The set is seen as its 32 words of bits
abbrev pub has_id : List ℕ → ℕ → Bool
has_id set n = has_bit set n

-- a pair joins two sets of ids: one of its ids is in the one set, and the other id in the other set
abbrev pub joins : List ℕ → List ℕ → ℕ × ℕ → Bool
joins x y p = (has_id x p.0 && has_id y p.1) || (has_id x p.1 && has_id y p.0)

-- some pair of a list joins two sets of ids
abbrev pub are_touched : List ℕ → List ℕ → List (ℕ × ℕ) → Bool
are_touched x y pairs = list_any (joins x y) pairs

-- the pairs of a list both of whose ids are in a set, in order
abbrev pub kept : List ℕ → List (ℕ × ℕ) → List (ℕ × ℕ)
kept set pairs = filter (λ p. has_id set p.0 && has_id set p.1) pairs
