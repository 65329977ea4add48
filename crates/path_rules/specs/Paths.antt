-- The paths of a termination graph from cut to cut, and their order (Otto, Brockschmidt, von Essen, Giesl 2010).
use Rattle.std.specs.Prelude.{◌≡◌, ℕ, ◌<◌, ◌==◌, nat_lt, Bool, true, false, if◌then◌else◌, List, [], ◌∷◌, All, length, Option, Some}
use Rattle.std.specs.Prelude.{None, slice_get}
use Rattle.std.specs.List.{list_any}
use Rattle.std.specs.Option.{option_and_then}
use Rattle.jvm_values.specs.Paths.{Steps, follow}
use Rattle.term_graph.specs.Graphs.{GraphNode, successors}
use Rattle.path_rules.specs.Limits.{most_paths}

-- ---- edges

-- the node to which an edge leads. A node's edges are numbered from 0, by its children in their order; a node whose state is
-- an instance of another one's has the edge to that one alone
abbrev pub edges : List GraphNode → Steps
edges graph node place = option_and_then (λ (from : GraphNode). slice_get (successors from.by) place) (slice_get graph node)

-- a node is one of the cuts
abbrev pub is_cut : List ℕ → ℕ → Bool
is_cut cuts node = list_any (λ cut. cut == node) cuts

-- the edges to nodes that are no cuts
abbrev pub inner_edges : List GraphNode → List ℕ → Steps
inner_edges graph cuts node place = option_and_then (λ (to : ℕ). if is_cut cuts to then None else Some to) (edges graph node place)

-- a node is on a cycle without a cut: one edge or more, to nodes that are no cuts, lead from it back to it
pub record IsUncut (graph : List GraphNode) (cuts : List ℕ) (node : ℕ) : Type 0 where
  pub first : ℕ
  pub places : List ℕ
  pub leads : follow (inner_edges graph cuts) (first ∷ places) node ≡ Some node

-- ---- paths

-- the cut at which a path starts, and its edges by their numbers
pub record Path : Type 0 where
  pub from : ℕ
  pub places : List ℕ

-- the node to which an edge led, if no edge comes after it
abbrev pub only_last : List ℕ → ℕ → Option ℕ
only_last [] to = Some to
only_last (place ∷ places) to = None

-- the cut where edges end that lead from a node one after another: the last one leads to a cut, and no other one does
abbrev pub end_of : List GraphNode → List ℕ → ℕ → List ℕ → Option ℕ
end_of graph cuts node [] = None
end_of graph cuts node (place ∷ places) = option_and_then
    (λ (to : ℕ). if is_cut cuts to then only_last places to else end_of graph cuts to places) (edges graph node place)

-- a path from a cut to the next one, by at least one edge
pub record IsPath (graph : List GraphNode) (cuts : List ℕ) (path : Path) : Type 0 where
  pub starts : is_cut cuts path.from ≡ true
  pub to : ℕ
  pub ends : end_of graph cuts path.from path.places ≡ Some to

-- ---- order

-- of two lists of edges: where they first differ, this one has the lower number
abbrev pub is_earlier : List ℕ → List ℕ → Bool
is_earlier [] others = false
is_earlier (place ∷ places) [] = false
is_earlier (place ∷ places) (other ∷ others) = if place == other then is_earlier places others else nat_lt place other

-- paths go by the cut at which they start, and then depth first, by the order of children
abbrev pub is_before : Path → Path → Bool
is_before path other = if path.from == other.from then is_earlier path.places other.places else nat_lt path.from other.from

-- a path comes before the first one of a list, if the list has one
abbrev pub IsBeforeFirst : Path → List Path → Type 0
IsBeforeFirst path [] = Unit {0}
IsBeforeFirst path (next ∷ paths) = is_before path next ≡ true

-- paths stand in their order: each comes before the next one
abbrev pub Rise : List Path → Type 0
Rise [] = Unit {0}
Rise (path ∷ paths) = IsBeforeFirst path paths × Rise paths

-- all paths, in their order
pub record AreAllPaths (graph : List GraphNode) (cuts : List ℕ) (paths : List Path) : Type 0 where
  pub each : All (IsPath graph cuts) paths
  pub all : (path : Path) → IsPath graph cuts path → (n : ℕ) × (slice_get paths n ≡ Some path)
  pub rise : Rise paths

-- ---- faults

-- the least node on a cycle without a cut
pub record IsLeastUncut (graph : List GraphNode) (cuts : List ℕ) (node : ℕ) : Type 0 where
  pub uncut : IsUncut graph cuts node
  pub least : (other : ℕ) → other < node → IsUncut graph cuts other → ⊥

-- every cycle has a cut
abbrev pub IsCut : List GraphNode → List ℕ → Type 0
IsCut graph cuts = (node : ℕ) → IsUncut graph cuts node → ⊥

-- there are too many paths
pub record HasTooManyPaths (graph : List GraphNode) (cuts : List ℕ) : Type 0 where
  pub paths : List Path
  pub each : All (IsPath graph cuts) paths
  pub rise : Rise paths
  pub many : most_paths < length paths
