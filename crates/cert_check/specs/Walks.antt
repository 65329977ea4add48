-- Walks through a graph by states of the machine.
use Rattle.std.specs.Prelude.{◌≡◌, ℕ, List, Some, slice_get}
use mathlib.Core.WellFounded.{Acc}
use Rattle.abs_cells.specs.Fits.{Fits}
use Rattle.class_program.specs.class_world.WorldTypes.{types_of}
use Rattle.class_program.specs.Programs.{Program}
use Rattle.frame_types.specs.Tables.{CodeTypes}
use Rattle.code_verify.specs.TypedStates.{IsTypedState}
use Rattle.term_graph.specs.declared.links.Link.{Link}
use Rattle.term_graph.specs.Graphs.{GraphNode}
use Rattle.path_rules.specs.Walks.{Spot}
use Rattle.graph_check.specs.Laws.{GoesBy}

-- where a walk stands: at a node, with a state of the machine and what the ids of the node's state stand for
pub record Station : Type 0 where
  pub node : ℕ
  pub spot : Spot

-- a walk may stand there: the machine's state is typed and fits the state of the node
pub record IsAt (p : Program) (typing : ℕ → CodeTypes) (nodes : List GraphNode) (station : Station) : Type 0 where
  pub node : GraphNode
  pub is : slice_get nodes station.node ≡ Some node
  pub fits : Fits (types_of p.world) node.state station.spot.machine station.spot.meaning
  pub typed : IsTypedState p typing station.spot.machine

-- an edge of the graph leads from one station to another: by a step of the machine to a child, or without a step to the node of which this
-- one is an instance
pub record GoesTo (p : Program) (typing : ℕ → CodeTypes) (nodes : List GraphNode) (links : List (List Link)) (from to : Station) :
    Type 0 where
  pub at : IsAt p typing nodes from
  pub there : IsAt p typing nodes to
  pub own : List Link
  pub are : slice_get links from.node ≡ Some own
  pub by : GoesBy p at.node.state from.spot.machine from.spot.meaning at.node.by own to.node there.node.state to.spot.machine
      to.spot.meaning

-- every walk from a station is finite: whatever edges follow one another, they come to an end
abbrev pub WalksEnd : Program → (ℕ → CodeTypes) → List GraphNode → List (List Link) → Station → Type 0
WalksEnd p typing nodes links start = Acc (λ (to from : Station). GoesTo p typing nodes links from to) start

-- no walk goes on from a station
abbrev pub IsLast : Program → (ℕ → CodeTypes) → List GraphNode → List (List Link) → Station → Type 0
IsLast p typing nodes links from = (to : Station) → GoesTo p typing nodes links from to → ⊥
