-- What filled graphs promise.
use Rattle.std.specs.Prelude.{◌≡◌, ℕ, List, map, Option, Some, None, slice_get}
use Rattle.abs_cells.specs.AbstractStates.{AbstractState}
use Rattle.class_program.specs.Programs.{Program}
use Rattle.frame_types.specs.Tables.{CodeTypes}
use Rattle.term_graph.specs.declared.links.Link.{Link}
use Rattle.term_graph.specs.Graphs.{GraphNode, GraphPart}
use Rattle.graph_check.specs.Good.{GraphOk}
use Rattle.graph_fill.specs.ChildrenOfStates.{IsFilledGraph}

-- parts have one filled graph at most
abbrev pub FilledGraphsAreOne : Type 0
FilledGraphsAreOne =
    (p : Program) (typing : ℕ → CodeTypes) (parts : List GraphPart) (nodes others : List GraphNode)
    → IsFilledGraph p typing parts nodes → IsFilledGraph p typing parts others → nodes ≡ others

-- a part gives a node's state, or none
abbrev pub IsStateOrNone : Option AbstractState → AbstractState → Type 0
IsStateOrNone (Some given) state = given ≡ state
IsStateOrNone None state = Unit {0}

-- parts are those of a graph, of which some states are left out: each node is left as its part says
pub record ArePartsOf (nodes : List GraphNode) (parts : List GraphPart) : Type 0 where
  pub ways : map (λ node. node.by) nodes ≡ map (λ part. part.by) parts
  pub states : (number : ℕ) (part : GraphPart) (node : GraphNode) → slice_get parts number ≡ Some part
      → slice_get nodes number ≡ Some node → IsStateOrNone part.state node.state

-- of a good graph, of which some states are left out, the filled graph is that graph itself
abbrev pub GoodGraphsFillThemselves : Type 0
GoodGraphsFillThemselves =
    (p : Program) (typing : ℕ → CodeTypes) (nodes filled : List GraphNode) (root : AbstractState) (links : List (List Link))
    (parts : List GraphPart)
    → GraphOk p typing nodes root links → ArePartsOf nodes parts → IsFilledGraph p typing parts filled → filled ≡ nodes
