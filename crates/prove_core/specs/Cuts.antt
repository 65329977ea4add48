-- The cuts of a graph: its root, and each node of which another one is an instance.
use Rattle.std.specs.Prelude.{◌≡◌, ℕ, ◌<◌, ◌==◌, ◌||◌, Bool, false, List, All, length}
use Rattle.std.specs.List.{list_any}
use Rattle.term_graph.specs.declared.nodes.By.{By}
use Rattle.term_graph.specs.declared.nodes.By.TheVariants.{Expand, Instance, End, Todo}
use Rattle.term_graph.specs.Graphs.{GraphNode}
use Rattle.path_rules.specs.Conditions.{CutsRise}
use Rattle.path_rules.specs.Paths.{is_cut}

-- whether a node that is left in this way is an instance of the node of a number
abbrev pub is_instance_of : ℕ → By → Bool
is_instance_of n (Expand named) = false
is_instance_of n (Instance target entries) = target == n
is_instance_of n End = false
is_instance_of n Todo = false

-- whether some node of a graph is an instance of the node of a number
abbrev pub is_target : List GraphNode → ℕ → Bool
is_target nodes n = list_any (λ (node : GraphNode). is_instance_of n node.by) nodes

-- the cuts of a graph are its root and each node of which another one is an instance, and they rise
pub record AreTargets (nodes : List GraphNode) (cuts : List ℕ) : Type 0 where
  pub rise : CutsRise 0 cuts
  pub within : All (λ (cut : ℕ). cut < length nodes) cuts
  pub are : (n : ℕ) → n < length nodes → is_cut cuts n ≡ ((n == 0) || is_target nodes n)
