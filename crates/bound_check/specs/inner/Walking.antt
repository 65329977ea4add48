-- Words of private calls: the most steps from a node to the next cut or to an End node. A number of steps is kept with one added; it is 0
-- where no way leads on.
use Rattle.std.specs.Prelude.{◌≡◌, ◌⊎◌, ℕ, zero, suc, ◌+◌, ◌≤◌, nat_lt, pred, Bool, true, false, if◌then◌else◌, List, [], ◌∷◌, map}
use Rattle.std.specs.Prelude.{Option, Some, None, slice_get, slice_index_or}
use Rattle.std.specs.Option.{option_map_or, option_and_then}
use Rattle.number_graphs.specs.Lists.{row_at}
use Rattle.term_graph.specs.declared.links.Link.{Link}
use Rattle.term_graph.specs.declared.nodes.By.{By}
use Rattle.term_graph.specs.declared.nodes.By.TheVariants as ways
use Rattle.term_graph.specs.Graphs.{GraphNode}
use Rattle.path_rules.specs.Successors.{has_mark}
use Rattle.bound_check.specs.Bounds.{step_of_link}

-- ---- End nodes

-- whether a node is left as the end of the run
abbrev pub is_end : By → Bool
is_end ways.End = true
is_end (ways.Expand named) = false
is_end (ways.Instance target entries) = false
is_end ways.Todo = false

-- for each node whether it is left as the end of the run
abbrev pub ends_of : List GraphNode → List Bool
ends_of nodes = map (λ (node : GraphNode). is_end node.by) nodes

-- ---- numbers. A number of steps is kept with one added; it is 0 where no way leads on

-- the greater one of two numbers
abbrev pub greater : ℕ → ℕ → ℕ
greater number other = if nat_lt number other then other else number

-- so many steps more, where a way leads on
abbrev pub onward : ℕ → ℕ → ℕ
onward zero step = 0
onward (suc rest) step = suc rest + step

-- the most steps over an edge to a node: the way ends at a cut, and from another node it goes on
abbrev pub over : List Bool → List ℕ → ℕ → ℕ → ℕ
over marks most to step = if has_mark marks to then onward 1 step else onward (slice_index_or most to 0) step

-- the greatest of a number and the most steps over the edges of a row, numbered from a place on, where these are the node's links
abbrev pub best_on : List Bool → List ℕ → List Link → ℕ → ℕ → List ℕ → ℕ
best_on marks most own place best [] = best
best_on marks most own place best (to ∷ row) = best_on marks most own (suc place)
    (greater best (over marks most to (step_of_link (slice_get own place)))) row

-- the links of a node; past the last node there are none
abbrev pub links_of : List (List Link) → ℕ → List Link
links_of links node = option_map_or (λ (own : List Link). own) (slice_get links node) []

-- the steps of a node without an edge, with one added: none at an End node, and no way elsewhere
abbrev pub steps_here : List Bool → ℕ → ℕ
steps_here ends node = if slice_index_or ends node false then 1 else 0

-- the most steps from a node, by those of the nodes in its row
abbrev pub most_of_node : List Bool → List Bool → List (List Link) → List ℕ → ℕ → List ℕ → ℕ
most_of_node marks ends links most node row = best_on marks most (links_of links node) 0 (steps_here ends node) row

-- the most steps from the nodes of these rows, numbered from one on, by those of all nodes
abbrev pub next_most : List Bool → List Bool → List (List Link) → List ℕ → ℕ → List (List ℕ) → List ℕ
next_most marks ends links most node [] = []
next_most marks ends links most node (row ∷ lists) = most_of_node marks ends links most node row
    ∷ next_most marks ends links most (suc node) lists

-- the greatest of a number and the most steps from the cuts, now without the one that was added
abbrev pub most_from : List ℕ → ℕ → List ℕ → ℕ
most_from most best [] = best
most_from most best (cut ∷ cuts) = most_from most (greater best (pred (slice_index_or most cut 0))) cuts

-- ---- ways by lists

-- a way of edges from a node ends at the first cut, or leads to an End node without one
abbrev pub Ends : List (List ℕ) → List Bool → List Bool → ℕ → List ℕ → Type 0
Ends lists marks ends node [] = slice_index_or ends node false ≡ true
Ends lists marks ends node (place ∷ places) = (to : ℕ) × ((slice_get (row_at lists node) place ≡ Some to)
    × (((has_mark marks to ≡ true) × (places ≡ [])) ⊎ ((has_mark marks to ≡ false) × Ends lists marks ends to places)))

-- how many edges of a way are steps
abbrev pub steps_on : List (List ℕ) → List (List Link) → ℕ → List ℕ → ℕ
steps_on lists links node [] = 0
steps_on lists links node (place ∷ places) = step_of_link (slice_get (links_of links node) place)
    + option_map_or (λ (to : ℕ). steps_on lists links to places) (slice_get (row_at lists node) place) 0

-- a way from a node to the next cut or to an End node has so many steps
pub record HasSteps (lists : List (List ℕ)) (marks ends : List Bool) (links : List (List Link)) (node steps : ℕ) : Type 0 where
  pub places : List ℕ
  pub way : Ends lists marks ends node places
  pub are : steps_on lists links node places ≡ steps

-- a node's number is right: it is one more than the most steps of a way from it, or 0 where there is no way
pub record IsRight (links : List (List Link)) (lists : List (List ℕ)) (marks ends : List Bool) (most : List ℕ) (node : ℕ) : Type 0 where
  pub enough : (places : List ℕ) → Ends lists marks ends node places
      → suc (steps_on lists links node places) ≤ slice_index_or most node 0
  pub reached : (steps : ℕ) → slice_index_or most node 0 ≡ suc steps → HasSteps lists marks ends links node steps

-- the numbers of all nodes are right
abbrev pub AreRight : List (List Link) → List (List ℕ) → List Bool → List Bool → List ℕ → Type 0
AreRight links lists marks ends most = (node : ℕ) → IsRight links lists marks ends most node
