-- Words of private calls: the one list of a state's sized ids with their patterns, as an equation. That each state has such a list is
-- proved by it; no function computes it.
use Rattle.std.specs.Prelude.{ℕ, List, [], ◌∷◌}
use Rattle.std.specs.Prelude.{map, Option, Some, None}
use Rattle.std.specs.List.{flat_map}
use Rattle.lin_core.specs.declared.rows.WRow.{WRow}
use Rattle.abs_cells.specs.declared.cells.Cell.{Cell}
use Rattle.abs_cells.specs.AbstractStates.{AbstractState}
use Rattle.abs_cells.specs.Patterns.{Pattern}
use Rattle.term_graph.specs.declared.links.Link.{Link}
use Rattle.term_graph.specs.Graphs.{GraphNode}
use Rattle.path_rules.specs.Stops.{Stop, LinkedGraph}
use Rattle.path_rules.specs.Rules.{rows_of_size}
use Rattle.path_rules.specs.Sizing.{size_at}

-- ---- regions without cycles

-- A path from an id is followed as long as it comes to no id again, so that no cycle is there where none is met.

abbrev pub entry_of : ℕ → Option Pattern → List (ℕ × Pattern)
entry_of id None = []
entry_of id (Some pattern) = (id, pattern) ∷ []

-- the sized ids among those of cells, each with its pattern
abbrev pub sizes_in : (ℕ → Option Pattern) → List (ℕ × Cell) → List (ℕ × Pattern)
sizes_in size cells = flat_map (λ (c : ℕ × Cell). entry_of c.0 (size c.0)) cells

abbrev pub sizes_of : AbstractState → List (ℕ × Pattern)
sizes_of state = sizes_in (size_at state) state.cells

-- ---- stops

abbrev pub sized : AbstractState → Stop
sized state = record { state = state; sizes = sizes_of state }

abbrev pub sized_graph : List GraphNode → List (List Link) → LinkedGraph
sized_graph graph links = record { graph = graph; links = links; sizes = map (λ (n : GraphNode). sizes_of n.state) graph }

-- a variable is the size of an id's image, where there is an image and it is sized
abbrev pub rows_of_image : ℕ → ℕ → AbstractState → Option ℕ → List WRow
rows_of_image v first state None = []
rows_of_image v first state (Some image) = rows_of_size v first state (size_at state image)
