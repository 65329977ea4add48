-- The nodes to which nodes lead, and which of them are cuts.
use Rattle.std.specs.Prelude.{◌≡◌, ℕ, nat_lt, not, Bool, false, if◌then◌else◌, List, [], ◌∷◌}
use Rattle.std.specs.Prelude.{map, filter, slice_index_or}
use Rattle.term_graph.specs.Graphs.{GraphNode, successors}
use Rattle.path_rules.specs.Paths.{is_cut}

-- a node is marked; nodes past the end of the marks aren't
abbrev pub has_mark : List Bool → ℕ → Bool
has_mark marks node = slice_index_or marks node false

-- just the cuts are marked
abbrev pub AreMarks : List ℕ → List Bool → Type 0
AreMarks cuts marks = (node : ℕ) → has_mark marks node ≡ is_cut cuts node

-- of the nodes of a list, those that are no cuts
abbrev pub inner_row : List Bool → List ℕ → List ℕ
inner_row marks row = filter (λ (to : ℕ). not (has_mark marks to)) row

-- the greatest of a number and those of a list
abbrev pub most_of : ℕ → List ℕ → ℕ
most_of most [] = most
most_of most (number ∷ numbers) = most_of (if nat_lt most number then number else most) numbers

-- the nodes to which each node of a graph leads, in the order of its edges
abbrev pub lists_of : List GraphNode → List (List ℕ)
lists_of graph = map (λ (n : GraphNode). successors n.by) graph
