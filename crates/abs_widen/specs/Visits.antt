-- Which ids of two states stand beside one another, and in which order these pairs are met: those at the positions, bottom
-- frame first, locals, operand stack from the bottom up, and the thrown ids at the end; behind each pair, at its first visit,
-- those that the cells of its ids name.
use Rattle.std.specs.Prelude.{◌≡◌, ℕ, ◌<◌, ◌&&◌, ◌||◌, Bool, true, false, if◌then◌else◌, List, [], ◌∷◌, ◌++◌, zip, reverse, length}
use Rattle.std.specs.Prelude.{Option, Some, None}
use Rattle.std.specs.List.{AllByRecursion, list_any, flat_map}
use Rattle.abs_cells.specs.declared.cells.Cell.{Cell}
use Rattle.abs_cells.specs.AbstractStates.{AbstractFrame, AbstractState}
use Rattle.abs_cells.specs.PairLists.{is_same}
use Rattle.abs_cells.specs.Cells.{is_int, is_of_sort, cell_at}
use Rattle.abs_cells.specs.Limits.{most_ids}
use Rattle.abs_reach.specs.Instances.{is_no_int}
use Rattle.abs_widen.specs.Rows.{Row, row_of, pairs_of}

-- ---- positions

-- two ids stand beside one another: both are ints, or neither is one
abbrev pub are_alike : AbstractState → AbstractState → ℕ → ℕ → Bool
are_alike a b x y = (is_of_sort is_int (cell_at a x) && is_of_sort is_int (cell_at b y))
    || (is_of_sort is_no_int (cell_at a x) && is_of_sort is_no_int (cell_at b y))

-- the pair of two locals: none where one is unset, or an int stands beside a reference
abbrev pub local_pair : AbstractState → AbstractState → Option ℕ → Option ℕ → Option (ℕ × ℕ)
local_pair a b None y = None
local_pair a b (Some x) None = None
local_pair a b (Some x) (Some y) = if are_alike a b x y then Some (x, y) else None

-- a list of one item or none
abbrev pub some_in : {A : Type 0} → Option A → List A
some_in None = []
some_in (Some x) = x ∷ []

-- the pairs of the locals of two frames, in the locals' order
abbrev pub local_pairs : AbstractState → AbstractState → List (Option ℕ) → List (Option ℕ) → List (ℕ × ℕ)
local_pairs a b locals others = flat_map (λ both. some_in (local_pair a b both.0 both.1)) (zip locals others)

-- the pairs at the positions of two frames: those of the locals, then those of the operand stacks from the bottom up
abbrev pub frame_pairs : AbstractState → AbstractState → AbstractFrame → AbstractFrame → List (ℕ × ℕ)
frame_pairs a b frame other = local_pairs a b frame.locals other.locals ++ zip (reverse frame.stack) (reverse other.stack)

-- the pairs at the positions of two call stacks, the bottom frame first
abbrev pub frames_pairs : AbstractState → AbstractState → List AbstractFrame → List AbstractFrame → List (ℕ × ℕ)
frames_pairs a b frames others = flat_map (λ both. frame_pairs a b both.0 both.1) (zip frames others)

-- the pair of the ids of two thrown objects
abbrev pub thrown_pair : Option ℕ → Option ℕ → Option (ℕ × ℕ)
thrown_pair None y = None
thrown_pair (Some x) None = None
thrown_pair (Some x) (Some y) = Some (x, y)

-- the pairs that stand at the same positions of two states
abbrev pub position_pairs : AbstractState → AbstractState → List (ℕ × ℕ)
position_pairs a b = frames_pairs a b (reverse a.frames) (reverse b.frames) ++ some_in (thrown_pair a.throwing b.throwing)

-- ---- cells

-- the row of two cells, where both are there
abbrev pub row_of_cells : Option Cell → Option Cell → Option Row
row_of_cells None q = None
row_of_cells (Some p) None = None
row_of_cells (Some p) (Some q) = Some (row_of p q)

-- the row of the cells of a pair
abbrev pub row_at : AbstractState → AbstractState → ℕ × ℕ → Option Row
row_at a b pair = row_of_cells (cell_at a pair.0) (cell_at b pair.1)

-- the pairs of ids that stand beside one another by a row, if there is one
abbrev pub pairs_in : Option Row → List (ℕ × ℕ)
pairs_in None = []
pairs_in (Some row) = pairs_of row

-- the pairs that the cells of a pair name
abbrev pub pairs_below : AbstractState → AbstractState → ℕ × ℕ → List (ℕ × ℕ)
pairs_below a b pair = pairs_in (row_at a b pair)

-- ---- visits

-- a pair is one of a list
abbrev pub is_among : ℕ × ℕ → List (ℕ × ℕ) → Bool
is_among pair pairs = list_any (is_same pair) pairs

-- a visit depth first: from the pairs that were met, and others still to be visited, the next one first, it meets these pairs
-- in the end. A pair that was met is passed over; another one is met, and then what its cells name is visited before the others
pub data Visits (a b : AbstractState) : List (ℕ × ℕ) → List (ℕ × ℕ) → List (ℕ × ℕ) → Type 0 where
  ends : (met : List (ℕ × ℕ)) → Visits a b met [] met
  again : (met rest all : List (ℕ × ℕ)) (pair : ℕ × ℕ) → is_among pair met ≡ true → Visits a b met rest all
      → Visits a b met (pair ∷ rest) all
  first : (met rest all : List (ℕ × ℕ)) (pair : ℕ × ℕ) → is_among pair met ≡ false
      → Visits a b (met ++ pair ∷ []) (pairs_below a b pair ++ rest) all → Visits a b met (pair ∷ rest) all

-- the pairs of two states, each once, in the order in which they are met: a pair's number is its place
abbrev pub ArePairs : AbstractState → AbstractState → List (ℕ × ℕ) → Type 0
ArePairs a b pairs = Visits a b [] (position_pairs a b) pairs

-- two ids are a pair of the widening: they stand at one position of the two states, or are named beside one another by a pair
-- that is one
pub data IsPaired (a b : AbstractState) : ℕ × ℕ → Type 0 where
  placed : (pair : ℕ × ℕ) → is_among pair (position_pairs a b) ≡ true → IsPaired a b pair
  named : (above pair : ℕ × ℕ) → IsPaired a b above → is_among pair (pairs_below a b above) ≡ true → IsPaired a b pair

-- no pair stands twice in a list
abbrev pub AreDifferent : List (ℕ × ℕ) → Type 0
AreDifferent [] = Unit {0}
AreDifferent (pair ∷ pairs) = (is_among pair pairs ≡ false) × AreDifferent pairs

-- there are more pairs than a state may have ids: each pair would become an id of the widening
pub record AreTooMany (a b : AbstractState) : Type 0 where
  pub pairs : List (ℕ × ℕ)
  pub many : most_ids < length pairs
  pub differ : AreDifferent pairs
  pub paired : AllByRecursion (IsPaired a b) pairs
