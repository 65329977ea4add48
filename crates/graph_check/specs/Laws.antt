-- What a good graph promises: a typed state of the machine that fits a node ends with its next step, or goes on to a node that this
-- one names, by an edge.
use Rattle.std.specs.Prelude.{◌≡◌, ◌⊎◌, ℕ, List, Some, slice_get}
use Rattle.jvm_values.specs.States.{MachineState}
use Rattle.abs_cells.specs.AbstractStates.{AbstractState}
use Rattle.abs_cells.specs.Fits.{Meaning, Fits}
use Rattle.class_program.specs.class_world.WorldTypes.{types_of}
use Rattle.class_program.specs.Programs.{Program, IsClosed}
use Rattle.class_program.specs.Widths.{HasWidths}
use Rattle.frame_types.specs.Tables.{CodeTypes}
use Rattle.step_laws.specs.jvm_step.Running.{step, IsEnd}
use Rattle.term_graph.specs.declared.links.Link.{Link}
use Rattle.term_graph.specs.declared.nodes.By.{By}
use Rattle.term_graph.specs.declared.nodes.By.TheVariants.{Expand, Instance, End, Todo}
use Rattle.term_graph.specs.Graphs.{GraphNode}
use Rattle.term_graph.specs.Edges.{Edge, InstanceEdge}
use Rattle.one_expansion.specs.abs_expand.Laws.{IsAfter, IsMet}
use Rattle.graph_check.specs.Good.{GraphOk}

-- an edge of an expanded node, from a state of the machine to the one after it: the n-th link leads to the n-th of the named nodes
pub record GoesByChild (p : Program) (state : AbstractState) (machine : MachineState) (meaning : Meaning) (named : List ℕ)
    (links : List Link) (to : ℕ) (child : AbstractState) (after : MachineState) (meaning_after : Meaning) : Type 0 where
  pub n : ℕ
  pub link : Link
  pub is_link : slice_get links n ≡ Some link
  pub is_named : slice_get named n ≡ Some to
  pub is_after : IsAfter p link.step machine after
  pub edge : Edge state machine meaning link child after meaning_after

-- an edge from a node to the one of which it is an instance: the machine's state stays, and each id of the other node means what its image
-- by the map means
pub record GoesByInstance (machine : MachineState) (meaning : Meaning) (target : ℕ) (entries : List (ℕ × ℕ)) (to : ℕ)
    (after : MachineState) (meaning_after : Meaning) : Type 0 where
  pub is_target : to ≡ target
  pub edge : InstanceEdge entries machine meaning after meaning_after

-- an edge leads from a node, left in a way, to a node's state
abbrev pub GoesBy : Program → AbstractState → MachineState → Meaning → By → List Link → ℕ → AbstractState → MachineState → Meaning → Type 0
GoesBy p state machine meaning (Expand named) links to child after meaning_after = GoesByChild p state machine meaning named links
    to child after meaning_after
GoesBy p state machine meaning (Instance target entries) links to child after meaning_after = GoesByInstance machine meaning target
    entries to after meaning_after
GoesBy p state machine meaning End links to child after meaning_after = ⊥
GoesBy p state machine meaning Todo links to child after meaning_after = ⊥

-- from a state of the machine that fits a node, the run goes on to a state that fits another node of the graph, by an edge of this node
pub record GoesOn (p : Program) (nodes : List GraphNode) (node : GraphNode) (links : List Link) (machine : MachineState)
    (meaning : Meaning) : Type 0 where
  pub to : ℕ
  pub successor : GraphNode
  pub is : slice_get nodes to ≡ Some successor
  pub after : MachineState
  pub meaning_after : Meaning
  pub fits : Fits (types_of p.world) successor.state after meaning_after
  pub by : GoesBy p node.state machine meaning node.by links to successor.state after meaning_after

-- the run ends with the next step, and the node says so
abbrev pub EndsHere : Program → GraphNode → MachineState → Type 0
EndsHere p node machine = (node.by ≡ End) × IsEnd (step p machine)

-- good graphs hold runs: where a typed state of the machine fits a node of a good graph, the run ends with the next step and the node says
-- so, or it goes on by an edge to a state that fits a node of the graph
abbrev pub GraphsHoldRuns : Type 0
GraphsHoldRuns =
    (p : Program) (typing : ℕ → CodeTypes) (nodes : List GraphNode) (root : AbstractState) (links : List (List Link)) → IsClosed p
    → HasWidths p → GraphOk p typing nodes root links
    → (n : ℕ) (node : GraphNode) (node_links : List Link) → slice_get nodes n ≡ Some node → slice_get links n ≡ Some node_links
    → (machine : MachineState) (meaning : Meaning) → IsMet p typing node.state machine meaning
    → EndsHere p node machine ⊎ GoesOn p nodes node node_links machine meaning
