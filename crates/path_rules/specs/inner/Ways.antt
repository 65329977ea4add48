-- Words of private calls: the ways from a node to the next cuts, listed, counted and told by their numbers.
use Rattle.std.specs.Prelude.{◌≡◌, ℕ, zero, suc, ◌+◌, ◌-◌, nat_lt, Bool, if◌then◌else◌, List, [], ◌∷◌}
use Rattle.std.specs.Prelude.{◌++◌, map, length, Option, Some, None, Result, Ok, Err, slice_get, slice_index_or}
use Rattle.std.specs.List.{flat_map}
use Rattle.std.specs.Option.{option_and_then}
use Rattle.number_graphs.specs.Graphs.{IsLeastOnCycle}
use Rattle.number_graphs.specs.Lists.{Edge, Fall, row_at}
use Rattle.term_graph.specs.Graphs.{GraphNode}
use Rattle.path_rules.specs.declared.fault.PathFault.{PathFault}
use Rattle.path_rules.specs.declared.fault.PathFault.TheVariants.{Uncut, TooManyPaths, TooManyRows, Memory}
use Rattle.path_rules.specs.declared.ways.Ways.{Ways}
use Rattle.path_rules.specs.Limits.{most_paths}
use Rattle.path_rules.specs.Paths.{Path, IsLeastUncut, only_last}
use Rattle.path_rules.specs.Successors.{has_mark, AreMarks, inner_row, lists_of}

-- ---- ways

-- by each edge of a row, numbered from a place on: a cut ends the way, from another node the ways go on
abbrev pub ways_by : (ℕ → List (List ℕ)) → List Bool → ℕ → List ℕ → List (List ℕ)
ways_by ways marks place [] = []
ways_by ways marks place (to ∷ row) = map (λ (way : List ℕ). place ∷ way) (if has_mark marks to then [] ∷ [] else ways to)
    ++ ways_by ways marks (suc place) row

-- the ways from each node to the next cuts, by the numbers of their edges
abbrev pub AreWays : List (List ℕ) → List Bool → (ℕ → List (List ℕ)) → Type 0
AreWays lists marks ways = (node : ℕ) → ways node ≡ ways_by ways marks 0 (row_at lists node)

-- the ways of at most so many edges
abbrev pub ways_within : List (List ℕ) → List Bool → ℕ → ℕ → List (List ℕ)
ways_within lists marks zero node = []
ways_within lists marks (suc depth) node = ways_by (ways_within lists marks depth) marks 0 (row_at lists node)

-- the ways from a node, where ranks fall along the edges to nodes that are no cuts
abbrev pub ways_of : List (List ℕ) → List Bool → List ℕ → ℕ → List (List ℕ)
ways_of lists marks ranks node = ways_within lists marks (suc (slice_index_or ranks node 0)) node

-- the cut where a way ends
abbrev pub end_over : List (List ℕ) → List Bool → ℕ → List ℕ → Option ℕ
end_over lists marks node [] = None
end_over lists marks node (place ∷ places) = option_and_then
    (λ (to : ℕ). if has_mark marks to then only_last places to else end_over lists marks to places) (slice_get (row_at lists node) place)

-- all paths: the ways from each cut
abbrev pub paths_by : (ℕ → List (List ℕ)) → List ℕ → List Path
paths_by ways cuts = flat_map (λ (cut : ℕ). map (λ (way : List ℕ). record { from = cut; places = way }) (ways cut)) cuts

-- ---- numbers of ways

-- numbers are counted up to one more than `most_paths`: then there are too many
abbrev pub counted : ℕ → ℕ
counted n = if nat_lt n (suc most_paths) then n else suc most_paths

-- how many ways go on over an edge to a node, where each node has a count
abbrev pub count_over : List Bool → List ℕ → ℕ → ℕ
count_over marks counts to = if has_mark marks to then 1 else slice_index_or counts to 0

-- so many, and as many as the things of a row have each
abbrev pub counted_on : (ℕ → ℕ) → ℕ → List ℕ → ℕ
counted_on size count [] = count
counted_on size count (to ∷ row) = counted_on size (counted (count + size to)) row

-- how many ways leave a node by a row of edges
abbrev pub count_row : List Bool → List ℕ → List ℕ → ℕ
count_row marks counts row = counted_on (count_over marks counts) 0 row

-- each node has the number of its ways
abbrev pub AreCounts : List (List ℕ) → List Bool → List ℕ → Type 0
AreCounts lists marks counts = (ways : ℕ → List (List ℕ)) → AreWays lists marks ways → (node : ℕ)
    → slice_index_or counts node 0 ≡ counted (length (ways node))

-- which thing of a row has a number, where each has so many: its place, places being numbered from one on, the thing, and the
-- number among its own
abbrev pub picked : (ℕ → ℕ) → ℕ → List ℕ → ℕ → Option (ℕ × ℕ × ℕ)
picked size place [] number = None
picked size place (to ∷ row) number = if nat_lt number (size to) then Some (place, to, number) else picked size (suc place) row
    (number - size to)

-- these edges are the way of a number from a node, if there are as many ways, and they end at this cut
abbrev pub IsWayOf : List (List ℕ) → List Bool → ℕ → ℕ → List ℕ → ℕ → Type 0
IsWayOf lists marks node number places to = (ways : ℕ → List (List ℕ)) → AreWays lists marks ways → (way : List ℕ)
    → slice_get (ways node) number ≡ Some way → (places ≡ way) × (end_over lists marks node places ≡ Some to)

-- what is kept of a graph in which every cycle has a cut
pub record AreWaysOf (graph : List GraphNode) (cuts : List ℕ) (ways : Ways) : Type 0 where
  pub lists_are : ways.lists ≡ lists_of graph
  pub marks_are : AreMarks cuts ways.marks
  pub fall : Fall (map (inner_row ways.marks) ways.lists) ways.ranks
  pub counts_are : AreCounts ways.lists ways.marks ways.counts

-- ranks that fall along all edges, or the least node on a cycle
abbrev pub IsRanked : List (List ℕ) → Result (List ℕ) PathFault → Type 0
IsRanked inner (Ok ranks) = Fall inner ranks
IsRanked inner (Err (Uncut node)) = IsLeastOnCycle (Edge inner) node
IsRanked inner (Err TooManyPaths) = ⊥
IsRanked inner (Err (TooManyRows path)) = ⊥
IsRanked inner (Err Memory) = Unit {0}

-- this, or the least node on a cycle without a cut
abbrev pub IsMapped : List GraphNode → List ℕ → Result Ways PathFault → Type 0
IsMapped graph cuts (Ok ways) = AreWaysOf graph cuts ways
IsMapped graph cuts (Err (Uncut node)) = IsLeastUncut graph cuts node
IsMapped graph cuts (Err TooManyPaths) = ⊥
IsMapped graph cuts (Err (TooManyRows path)) = ⊥
IsMapped graph cuts (Err Memory) = Unit {0}

-- all paths
abbrev pub paths_of : Ways → List ℕ → List Path
paths_of ways cuts = paths_by (ways_of ways.lists ways.marks ways.ranks) cuts
