-- Graphs as lists of successors: each number has the list at its place.
use Rattle.std.specs.Prelude.{◌<◌, ℕ, List, [], slice_get, slice_index_or}
use Rattle.std.specs.Option.{option_map_or}
pub use Rattle.list_views.specs.Lists.{Has}
use Rattle.number_graphs.specs.Graphs.{IsLeastOnCycle}
use Rattle.number_graphs.specs.declared.ranking.Ranking.{Ranking}
use Rattle.number_graphs.specs.declared.ranking.Ranking.TheVariants.{Ranks, Cycle}

-- the list of a number; numbers past the end have the empty one
abbrev pub row_at : List (List ℕ) → ℕ → List ℕ
row_at graph a = option_map_or (λ row. row) (slice_get graph a) []

-- a number is in the other one's list
abbrev pub Edge : List (List ℕ) → ℕ → ℕ → Type 0
Edge graph a b = Has (row_at graph a) b

-- every edge leads to a lower rank, where numbers past the end of the ranks have rank 0
abbrev pub Fall : List (List ℕ) → List ℕ → Type 0
Fall graph ranks = (a b : ℕ) → Edge graph a b → slice_index_or ranks b 0 < slice_index_or ranks a 0

-- ranks that fall along edges, or the least number on a cycle
abbrev pub Ranked : List (List ℕ) → Ranking → Type 0
Ranked graph (Ranks ranks) = Fall graph ranks
Ranked graph (Cycle a) = IsLeastOnCycle (Edge graph) a
