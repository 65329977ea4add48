-- Marks of nodes that are named as children: one for each node, set once the node is named.
use Rattle.std.specs.Prelude.{ℕ, Bool, true, List, [], ◌∷◌, slice_set}
use Rattle.term_graph.specs.declared.nodes.By.{By}
use Rattle.term_graph.specs.declared.nodes.By.TheVariants.{Expand, Instance, End, Todo}

-- the marks of nodes with those of these nodes set; a number past the end has none
abbrev pub all_marked : List Bool → List ℕ → List Bool
all_marked marks [] = marks
all_marked marks (child ∷ children) = all_marked (slice_set marks child true) children

-- the marks of nodes with those of the children set that a node which is left this way names
abbrev pub marked_by : List Bool → By → List Bool
marked_by marks (Expand children) = all_marked marks children
marked_by marks (Instance target map) = marks
marked_by marks End = marks
marked_by marks Todo = marks
