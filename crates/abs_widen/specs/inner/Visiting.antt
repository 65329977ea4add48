-- Words for the calls that visit pairs. No public clause cites them.
use Rattle.std.specs.Prelude.{◌≡◌, ℕ, ◌≤◌, false, List, ◌∷◌, ◌++◌, length, Option, Some, None}
use Rattle.std.specs.List.{AllByRecursion}
use Rattle.jvm_values.specs.TypedHeaps.{WorldTypes}
use Rattle.abs_cells.specs.declared.cells.Cell.{Cell}
use Rattle.abs_cells.specs.Cells.{is_int, cell_at}
use Rattle.abs_cells.specs.Sound.{IsSoundCell}
use Rattle.abs_cells.specs.AbstractStates.{AbstractFrame, AbstractState}
use Rattle.abs_cells.specs.Limits.{most_ids}
use Rattle.abs_widen.specs.Visits.{is_among, Visits, AreDifferent, IsPaired}

-- a visit of the pairs at the front goes from these that were met to those, whatever is visited behind them
abbrev pub Continues : AbstractState → AbstractState → List (ℕ × ℕ) → List (ℕ × ℕ) → List (ℕ × ℕ) → Type 0
Continues a b old front met = (rest all : List (ℕ × ℕ)) → Visits a b met rest all → Visits a b old (front ++ rest) all

-- a pair that was not met is the next one of these, and these are left
pub record IsNext (met old new : List (ℕ × ℕ)) (pair : ℕ × ℕ) : Type 0 where
  pub fresh : is_among pair met ≡ false
  pub visits : (a b : AbstractState) (all : List (ℕ × ℕ)) → Visits a b met (pair ∷ new) all → Visits a b met old all
  pub kept : (a b : AbstractState) → AllByRecursion (IsPaired a b) old → IsPaired a b pair × AllByRecursion (IsPaired a b) new

-- all of these were met
abbrev pub AreMet : List (ℕ × ℕ) → List (ℕ × ℕ) → Type 0
AreMet met old = (a b : AbstractState) → Visits a b met old met

-- the next pair, if there is one
abbrev pub IsNextOf : List (ℕ × ℕ) → List (ℕ × ℕ) → List (ℕ × ℕ) → Option (ℕ × ℕ) → Type 0
IsNextOf met old new None = AreMet met old
IsNextOf met old new (Some pair) = IsNext met old new pair

-- what was met: at most `most_ids` pairs, none twice, and all of them stand beside one another
pub record AreFew (a b : AbstractState) (met : List (ℕ × ℕ)) : Type 0 where
  pub few : length met ≤ most_ids
  pub differ : AreDifferent met
  pub paired : AllByRecursion (IsPaired a b) met

-- all pairs of a list are pairs of the widening
abbrev pub ArePaired : AbstractState → AbstractState → List (ℕ × ℕ) → Type 0
ArePaired a b pairs = AllByRecursion (IsPaired a b) pairs

-- two frames have as many locals, and stacks of one depth
pub record AreAsLong (frame other : AbstractFrame) : Type 0 where
  pub locals : length frame.locals ≡ length other.locals
  pub stacks : length frame.stack ≡ length other.stack

-- pairs at the front that were met are passed over
pub record IsLeft (met old new : List (ℕ × ℕ)) : Type 0 where
  pub visits : (a b : AbstractState) (all : List (ℕ × ℕ)) → Visits a b met new all → Visits a b met old all
  pub kept : (a b : AbstractState) → AllByRecursion (IsPaired a b) old → AllByRecursion (IsPaired a b) new

-- where a visit stands: what was met and what is still to be visited, of what it began with
pub record IsLeftOf (a b : AbstractState) (begun whole met todo : List (ℕ × ℕ)) : Type 0 where
  pub few : AreFew a b met
  pub paired : ArePaired a b todo
  pub visits : (all : List (ℕ × ℕ)) → Visits a b met todo all → Visits a b begun whole all

-- where a visit of pairs in their order stands: what was met, and the pairs that are left
pub record IsWithRest (a b : AbstractState) (begun whole met left : List (ℕ × ℕ)) : Type 0 where
  pub few : AreFew a b met
  pub paired : ArePaired a b left
  pub visits : (rest all : List (ℕ × ℕ)) → Visits a b met (left ++ rest) all → Visits a b begun (whole ++ rest) all

-- the cells of a pair: what they say is of the world, and both are ints or neither is
pub record AreCellsOf (types : WorldTypes) (a b : AbstractState) (pair : ℕ × ℕ) (p q : Cell) : Type 0 where
  pub first : cell_at a pair.0 ≡ Some p
  pub second : cell_at b pair.1 ≡ Some q
  pub first_sound : IsSoundCell types a p
  pub second_sound : IsSoundCell types b q
  pub alike : is_int p ≡ is_int q

-- both ids of a pair have such cells
pub record ArePairCells (types : WorldTypes) (a b : AbstractState) (pair : ℕ × ℕ) : Type 0 where
  pub p : Cell
  pub q : Cell
  pub of : AreCellsOf types a b pair p q
