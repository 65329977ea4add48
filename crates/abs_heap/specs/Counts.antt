-- How many ids a child has, of which there is a limit: by number, since a chain of classes may have more fields than there are ids.
use Rattle.std.specs.Prelude.{◌≡◌, ℕ, ◌+◌, ◌<◌, ◌≤◌, List, All, map, length, take, Some, slice_get}
use Rattle.jvm_values.specs.TypedHeaps.{WorldTypes}
use Rattle.abs_cells.specs.AbstractStates.{AbstractState}
use Rattle.abs_cells.specs.Limits.{most_ids}
use Rattle.abs_heap.specs.Refining.{Case, instance, numbers, references}

-- how many fresh ids the child of a case makes: one for each field of a class, or one for the length of an array
abbrev pub new_ids : WorldTypes → Case → ℕ
new_ids types (instance class) = length (types.fields class)
new_ids types (numbers kind) = 1
new_ids types (references element) = 1

-- an abstract state with so many ids more has too many
abbrev pub HasTooMany : AbstractState → ℕ → Type 0
HasTooMany state more = most_ids < length state.cells + more

-- how many ids the child of each case has, in the order of the cases
abbrev pub case_counts : WorldTypes → AbstractState → List Case → List ℕ
case_counts types state cases = map (λ case. length state.cells + new_ids types case) cases

-- each of some counts of ids is within the limit of an abstract state
abbrev pub AreFew : List ℕ → Type 0
AreFew counts = All (λ count. count ≤ most_ids) counts

-- the number of the first of some counts of ids that is above the limit of an abstract state
pub record IsFirstTooMany (counts : List ℕ) (n : ℕ) : Type 0 where
  pub count : ℕ
  pub is : slice_get counts n ≡ Some count
  pub many : most_ids < count
  pub before : AreFew (take n counts)
