-- Words for the calls that pair the ids of a widening. No public clause cites them.
use Rattle.std.specs.Prelude.{◌≡◌, ◌⊎◌, ◌↔◌, ℕ, ◌<◌, ◌≤◌, ◌&&◌, length, Bool, true, false, not, List, Some, slice_get}
use Rattle.abs_cells.specs.declared.cells.Cell.{Cell}
use Rattle.abs_cells.specs.AbstractStates.{AbstractState}
use Rattle.abs_cells.specs.PairLists.{IsRising, has, added}
use Rattle.abs_cells.specs.Cells.{is_known, is_reference, cell_in, HasCell}
use Rattle.abs_cells.specs.Closures.{MayMeet, MayBeIn}
use Rattle.abs_cells.specs.Limits.{most_ids}
use Rattle.abs_reach.specs.Instances.{MayBeOne}
use Rattle.abs_widen.specs.Widening.{merged_frames}

-- both ids of a pair have cells
pub record IsWithin (a b : AbstractState) (pair : ℕ × ℕ) : Type 0 where
  pub first : HasCell (λ _. true) a pair.0
  pub second : HasCell (λ _. true) b pair.1

-- two cells may join: both are of references, and not both are known
abbrev pub may_join_cells : Cell → Cell → Bool
may_join_cells c d = (is_reference c && is_reference d) && not (is_known c && is_known d)

-- of two pairs that may join: a known one may be in the region of the other one, or both are hazy and may meet
abbrev pub IsPairedBy : Bool → Bool → AbstractState → AbstractState → ℕ × ℕ → ℕ × ℕ → Type 0
IsPairedBy true second a b p q = MayBeIn a p.0 q.0 ⊎ MayBeIn b p.1 q.1
IsPairedBy false true a b p q = MayBeIn a q.0 p.0 ⊎ MayBeIn b q.1 p.1
IsPairedBy false false a b p q = MayMeet a p.0 q.0 ⊎ MayMeet b p.1 q.1

-- two pairs may share as their cells say: which of the two are known decides how
abbrev pub IsPairedAs : AbstractState → AbstractState → ℕ × ℕ → ℕ × ℕ → Cell → Cell → Type 0
IsPairedAs a b p q c d = IsPairedBy (is_known c) (is_known d) a b p q

-- two pairs may be one object on one side
abbrev pub AreOne : AbstractState → AbstractState → ℕ × ℕ → ℕ × ℕ → Type 0
AreOne a b p q = MayBeOne a p.0 q.0 ⊎ MayBeOne b p.1 q.1

-- two ids with their pairs and cells, which may join
pub record MayJoinAt (pairs : List (ℕ × ℕ)) (cells : List (ℕ × Cell)) (m n : ℕ) (p q : ℕ × ℕ) (c d : Cell) : Type 0 where
  pub p_is : slice_get pairs m ≡ Some p
  pub q_is : slice_get pairs n ≡ Some q
  pub c_is : cell_in cells m ≡ Some c
  pub d_is : cell_in cells n ≡ Some d
  pub joins : may_join_cells c d ≡ true

-- two numbers of pairs are to have one object: they may join, and may be one object on one side
pub record WantsOne (a b : AbstractState) (pairs : List (ℕ × ℕ)) (cells : List (ℕ × Cell)) (m n : ℕ) : Type 0 where
  pub p : ℕ × ℕ
  pub q : ℕ × ℕ
  pub c : Cell
  pub d : Cell
  pub at : MayJoinAt pairs cells m n p q c d
  pub one : AreOne a b p q

-- two numbers of pairs are to share: they may join, and may be one object, meet or be in one another's region on one side
pub record WantsShare (a b : AbstractState) (pairs : List (ℕ × ℕ)) (cells : List (ℕ × Cell)) (m n : ℕ) : Type 0 where
  pub p : ℕ × ℕ
  pub q : ℕ × ℕ
  pub c : Cell
  pub d : Cell
  pub at : MayJoinAt pairs cells m n p q c d
  pub shares : AreOne a b p q ⊎ IsPairedAs a b p q c d

-- a pair lies before a turn of the loop: its higher id is lower, or is the same one and its lower id is lower
abbrev pub IsPast : ℕ → ℕ → ℕ → ℕ → Type 0
IsPast n m i j = (j < n) ⊎ ((j ≡ n) × (i < m))

-- a list has exactly the wanted pairs up to a turn of the loop
abbrev pub AreJoinedTo : (ℕ → ℕ → Type 0) → ℕ → ℕ → List (ℕ × ℕ) → Type 0
AreJoinedTo wants n m list = (i j : ℕ) → i < j → (has i j list ≡ true) ↔ (IsPast n m i j × wants i j)

-- a list has exactly the wanted pairs, and rises
pub record AreJoined (wants : ℕ → ℕ → Type 0) (list : List (ℕ × ℕ)) : Type 0 where
  pub each : (i j : ℕ) → i < j → (has i j list ≡ true) ↔ wants i j
  pub rising : IsRising list

-- two ids are put among others where they are wanted
abbrev pub IsPut : (ℕ → ℕ → Type 0) → ℕ → ℕ → List (ℕ × ℕ) → List (ℕ × ℕ) → Type 0
IsPut wants m n old new = (wants m n × (new ≡ added m n old)) ⊎ ((wants m n → ⊥) × (new ≡ old))

-- the cells of pairs, each with its pair's number
pub record AreNumbered (pairs : List (ℕ × ℕ)) (cells : List (ℕ × Cell)) : Type 0 where
  pub long : length cells ≡ length pairs
  pub few : length pairs ≤ most_ids
  pub each : (k : ℕ) (entry : ℕ × Cell) → slice_get cells k ≡ Some entry → entry.0 ≡ k

-- a state of pairs with those of its ids that have one object, and those that share
pub record IsPaired (a b : AbstractState) (pairs : List (ℕ × ℕ)) (left paired : AbstractState) : Type 0 where
  pub frames : paired.frames ≡ merged_frames a b pairs a.frames b.frames
  pub throwing : paired.throwing ≡ left.throwing
  pub cells : paired.cells ≡ left.cells
  pub eq : AreJoined (WantsOne a b pairs paired.cells) paired.eq
  pub share : AreJoined (WantsShare a b pairs paired.cells) paired.share
