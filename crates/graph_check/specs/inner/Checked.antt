-- Words for the private calls that test a graph node by node.
use Rattle.std.specs.Prelude.{◌≡◌, ◌≢◌, ◌<◌, ℕ, List, [], length, map, Option, Some, None, slice_get, Result, Ok, Err}
use Rattle.std.specs.List.{AllZip}
use Rattle.abs_cells.specs.AbstractStates.{AbstractState}
use Rattle.abs_reach.specs.Instances.{InstanceOf}
use Rattle.class_program.specs.class_world.WorldTypes.{types_of}
use Rattle.class_program.specs.Programs.{Program}
use Rattle.frame_types.specs.Tables.{CodeTypes}
use Rattle.term_graph.specs.declared.links.Link.{Link}
use Rattle.term_graph.specs.declared.nodes.By.{By}
use Rattle.term_graph.specs.Graphs.{GraphNode, GraphChild}
use Rattle.one_expansion.specs.abs_expand.declared.fault.ExpandFault.{ExpandFault}
use Rattle.one_expansion.specs.abs_expand.declared.fault.ExpandFault.TheVariants as expansion
use Rattle.graph_check.specs.declared.fault.What.TheVariants as whats
use Rattle.graph_check.specs.declared.fault.CheckFault.{CheckFault}
use Rattle.graph_check.specs.declared.fault.CheckFault.TheVariants as faults
use Rattle.graph_check.specs.declared.failure.Failure.{Failure}
use Rattle.graph_check.specs.declared.failure.Failure.TheVariants.{Fails, Memory}
use Rattle.graph_check.specs.Good.{NamesChild, IsLeftBy, IsGoodNode, IsFirstOtherChild, FailsToMatch, FailsAs, IsFirstBadNode}

-- why a node is no good one, where the expansion of its state has a fault: a bad state is one, too many ids of a child another one
abbrev pub failure_of : ExpandFault → Failure
failure_of (expansion.BadState clause) = Fails (whats.BadState clause)
failure_of (expansion.TooManyIds child) = Fails whats.TooManyIds
failure_of expansion.Memory = Memory

-- the fault of a graph whose node of a number fails to be good; want of memory stays want of memory
abbrev pub fault_of : ℕ → Failure → CheckFault
fault_of node (Fails what) = faults.At node what
fault_of node Memory = faults.Memory

-- children and the numbers that a node names: they are those of the named nodes; or the first place where they aren't
abbrev pub AreNamedOr : List GraphNode → List GraphChild → List ℕ → Option ℕ → Type 0
AreNamedOr nodes children named None = AllZip (NamesChild nodes) children named
AreNamedOr nodes children named (Some place) = IsFirstOtherChild nodes children named place

-- the links of the children, or what is wrong with the numbers
abbrev pub LinksOr : List GraphNode → List GraphChild → List ℕ → Result (List Link) Failure → Type 0
LinksOr nodes children named (Ok links) = AllZip (NamesChild nodes) children named × (links ≡ map (λ child. child.link) children)
LinksOr nodes children named (Err (Fails whats.ChildCount)) = length children ≢ length named
LinksOr nodes children named (Err (Fails (whats.Child place))) = (length children ≡ length named)
    × IsFirstOtherChild nodes children named place
LinksOr nodes children named (Err (Fails _)) = ⊥
LinksOr nodes children named (Err Memory) = Unit {0}

-- a state is an instance of the node of a number, or what is wrong with that
abbrev pub MatchesOr : Program → List GraphNode → AbstractState → ℕ → List (ℕ × ℕ) → Result (List Link) Failure → Type 0
MatchesOr p nodes state target entries (Ok links) = (node : GraphNode)
    × ((slice_get nodes target ≡ Some node) × (InstanceOf (types_of p.world).sub state node.state entries × (links ≡ [])))
MatchesOr p nodes state target entries (Err (Fails whats.BadTarget)) = slice_get nodes target ≡ None
MatchesOr p nodes state target entries (Err (Fails (whats.Match fault))) = FailsToMatch p nodes state target entries fault
MatchesOr p nodes state target entries (Err (Fails _)) = ⊥
MatchesOr p nodes state target entries (Err Memory) = Unit {0}

-- the links of a state that is left in a way, or what is wrong with its node
abbrev pub LeavesOr : Program → (ℕ → CodeTypes) → List GraphNode → AbstractState → By → Result (List Link) Failure → Type 0
LeavesOr p typing nodes state by (Ok links) = IsLeftBy p typing nodes state by links
LeavesOr p typing nodes state by (Err (Fails what)) = FailsAs p typing nodes (record { state = state; by = by }) what
LeavesOr p typing nodes state by (Err Memory) = Unit {0}

-- the links of the node of a number, which is a good one, or what is wrong with that node
pub record NodeLeavesOr (p : Program) (typing : ℕ → CodeTypes) (nodes : List GraphNode) (number : ℕ)
    (result : Result (List Link) Failure) : Type 0 where
  pub node : GraphNode
  pub is : slice_get nodes number ≡ Some node
  pub leaves : LeavesOr p typing nodes node.state node.by result

-- the first children, so many of them, have each the state of the node that is named for it
abbrev pub FirstNamed : List GraphNode → List GraphChild → List ℕ → ℕ → Type 0
FirstNamed nodes children named count = (k : ℕ) (child : GraphChild) (n : ℕ) → k < count → slice_get children k ≡ Some child
    → slice_get named k ≡ Some n → NamesChild nodes child n

-- the links of all nodes, each of which is good, or the first one that isn't
abbrev pub GoodNodesOr : Program → (ℕ → CodeTypes) → List GraphNode → Result (List (List Link)) CheckFault → Type 0
GoodNodesOr p typing nodes (Ok links) = AllZip (IsGoodNode p typing nodes) nodes links
GoodNodesOr p typing nodes (Err (faults.At number what)) = IsFirstBadNode p typing nodes number what
GoodNodesOr p typing nodes (Err faults.Memory) = Unit {0}
