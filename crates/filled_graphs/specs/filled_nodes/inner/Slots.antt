-- Slots for states, and the ways by which states that are not held are made again.
use Rattle.std.specs.Prelude.{◌≡◌, ℕ, Bool, true, false, ◌==◌, if◌then◌else◌, List, [], ◌∷◌, length, Option, Some, None, slice_get}
use Rattle.std.specs.Prelude.{slice_set, ◌⊎◌}
use Rattle.abs_cells.specs.AbstractStates.{AbstractState}
use Rattle.filled_graphs.specs.declared.origins.Origin.{Origin}
use Rattle.filled_graphs.specs.declared.origins.Origin.TheVariants.{Named}

-- the slot of a number holds a state
pub record IsFull (slots : List (Option AbstractState)) (number : ℕ) : Type 0 where
  pub state : AbstractState
  pub is : slice_get slots number ≡ Some (Some state)

-- there are so many slots, and none of them holds a state
pub record AreEmpty (slots : List (Option AbstractState)) (count : ℕ) : Type 0 where
  pub long : length slots ≡ count
  pub empty : (n : ℕ) (state : AbstractState) → slice_get slots n ≡ Some (Some state) → ⊥

-- whether a slot is there, and holds a state
abbrev pub has_state : Option (Option AbstractState) → Bool
has_state (Some (Some state)) = true
has_state _ = false

-- the slot of a number is emptied, or nothing changes
abbrev pub MayDrop : List (Option AbstractState) → ℕ → List (Option AbstractState) → Type 0
MayDrop slots n after = (after ≡ slots) ⊎ (after ≡ slice_set slots n None)

-- a node is first named at a place of another one, as its origin says
abbrev pub IsNamedBy : List Origin → ℕ → ℕ → ℕ → Type 0
IsNamedBy origins node place number = slice_get origins number ≡ Some (Named node place)

-- whether an origin says that its node is first named at this place of this node
abbrev pub names_it : ℕ → ℕ → Option Origin → Bool
names_it node place (Some (Named namer at)) = if namer == node then (at == place) else false
names_it node place _ = false

-- the node that first names another one, as the origins say, or that none does
abbrev pub IsNamerIn : List Origin → ℕ → Option ℕ → Type 0
IsNamerIn origins number (Some namer) = (place : ℕ) × IsNamedBy origins namer place number
IsNamerIn origins number None = (namer place : ℕ) → IsNamedBy origins namer place number → ⊥

-- a way leads from one node to another, on which each node is first named by the one before: so the state of the last comes from that of
-- the first by expansions
abbrev pub Leads : List Origin → ℕ → ℕ → List ℕ → Type 0
Leads origins to from [] = from ≡ to
Leads origins to from (number ∷ way) = ((place : ℕ) × IsNamedBy origins from place number) × Leads origins to number way

-- the state of a node is held, or it comes from that of the node that first names it
abbrev pub IsFullOrNamed : List Origin → List (Option AbstractState) → ℕ → Option ℕ → Type 0
IsFullOrNamed origins slots number None = IsFull slots number
IsFullOrNamed origins slots number (Some namer) = (place : ℕ) × IsNamedBy origins namer place number
