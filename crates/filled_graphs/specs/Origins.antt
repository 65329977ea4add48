-- Where the states of nodes come from.
use Rattle.std.specs.Prelude.{◌≡◌, ℕ, ◌<◌, List, length, Option, Some, None, slice_get}
use Rattle.abs_cells.specs.AbstractStates.{AbstractState}
use Rattle.term_graph.specs.declared.nodes.By.{By}
use Rattle.term_graph.specs.Graphs.{GraphPart}
use Rattle.filled_graphs.specs.declared.origins.Origin.{Origin}
use Rattle.filled_graphs.specs.declared.origins.Origin.TheVariants.{Given, Lacking, Named}
use Rattle.filled_graphs.specs.Filling.{IsFirstNamed, ways_of}

-- ---- what an origin says

-- where the state of a node comes from: its part gives it; or the part lacks it, and the node is first named at that place, by a node of a
-- lower number
abbrev pub IsOriginOf : List By → ℕ → Option AbstractState → Origin → Type 0
IsOriginOf ways number state Given = (given : AbstractState) × (state ≡ Some given)
IsOriginOf ways number state Lacking = ⊥
IsOriginOf ways number state (Named node place) = (state ≡ None) × (IsFirstNamed ways node place number × (node < number))

-- each part has an origin of its node's state
pub record HaveOrigins (parts : List GraphPart) (origins : List Origin) : Type 0 where
  pub long : length origins ≡ length parts
  pub each : (number : ℕ) (part : GraphPart) (origin : Origin) → slice_get parts number ≡ Some part
      → slice_get origins number ≡ Some origin → IsOriginOf (ways_of parts) number part.state origin
