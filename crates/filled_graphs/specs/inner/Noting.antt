-- The origins of states while they are noted, node by node, and of a node place by place.
use Rattle.std.specs.Prelude.{◌≡◌, ◌⊎◌, ℕ, ◌<◌, Bool, true, false, if◌then◌else◌, List, length, Option, Some, None, slice_get, slice_set}
use Rattle.abs_cells.specs.AbstractStates.{AbstractState}
use Rattle.term_graph.specs.declared.nodes.By.{By}
use Rattle.term_graph.specs.Graphs.{GraphPart}
use Rattle.filled_graphs.specs.declared.origins.Origin.{Origin}
use Rattle.filled_graphs.specs.declared.origins.Origin.TheVariants.{Given, Lacking, Named}
use Rattle.filled_graphs.specs.Filling.{Names, IsFirstNamed, ways_of}

-- the origin of a state before any names are seen: it is given, or lacking
abbrev pub unnamed : Option AbstractState → Origin
unnamed (Some state) = Given
unnamed None = Lacking

-- whether an origin is still lacking
abbrev pub is_lacking : Option Origin → Bool
is_lacking (Some Lacking) = true
is_lacking _ = false

-- the origins when a node is seen to name a number at a place: where the origin of that number was lacking, it is this one
abbrev pub noted : ℕ → ℕ → ℕ → List Origin → List Origin
noted node place number origins = if is_lacking (slice_get origins number) then slice_set origins number (Named node place) else origins

-- a place of a node comes before a place of another one: the node is earlier, or it is one node and the place is earlier
abbrev pub ComesBefore : ℕ → ℕ → ℕ → ℕ → Type 0
ComesBefore node place m k = (node < m) ⊎ ((node ≡ m) × (place < k))

-- what is known of the origin of a node's state when all names before a place of a node are seen: it is given, or the node wasn't named
-- yet, or this is where it was first named
abbrev pub IsNoted : List By → ℕ → ℕ → ℕ → Option AbstractState → Origin → Type 0
IsNoted ways m k number state Given = (given : AbstractState) × (state ≡ Some given)
IsNoted ways m k number state Lacking = (state ≡ None)
    × ((node place : ℕ) → ComesBefore node place m k → Names ways node place number → ⊥)
IsNoted ways m k number state (Named node place) = (state ≡ None) × IsFirstNamed ways node place number

-- the origins of all parts when all names before a place of a node are seen
pub record AreNoted (parts : List GraphPart) (m k : ℕ) (origins : List Origin) : Type 0 where
  pub long : length origins ≡ length parts
  pub each : (number : ℕ) (part : GraphPart) (origin : Origin) → slice_get parts number ≡ Some part
      → slice_get origins number ≡ Some origin → IsNoted (ways_of parts) m k number part.state origin
