-- What tells the children of states: their expansions. And the filled graph by these.
use Rattle.std.specs.Prelude.{ℕ, List}
use Rattle.class_program.specs.Programs.{Program}
use Rattle.frame_types.specs.Tables.{CodeTypes}
use Rattle.term_graph.specs.Graphs.{GraphNode, GraphPart}
use Rattle.filled_graphs.specs.Filling.{ChildRules, IsFilled}
use Rattle.graph_check.specs.Good.{HasChildren}
use Rattle.graph_check.proofs.Excluding.{one_list}

-- the children of states by their expansions in a program whose code has these types
abbrev pub child_rules : Program → (ℕ → CodeTypes) → ChildRules
child_rules p typing = record { HasChildren = HasChildren p typing; one = one_list p typing }

-- the filled graph of parts, by expansions. They have one at most, and it is told that this is it, but not how each state was found
abbrev pub IsFilledGraph : Program → (ℕ → CodeTypes) → List GraphPart → List GraphNode → Type 0
IsFilledGraph p typing parts nodes = ∥ IsFilled (child_rules p typing) parts nodes ∥₁
