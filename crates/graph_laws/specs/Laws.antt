-- The graphs that grow from a growing root.
use Rattle.std.specs.Prelude.{◌≡◌, ℕ, Bool, true, List}
use Rattle.abs_cells.specs.AbstractStates.{AbstractState}
use Rattle.class_program.specs.Programs.{Program, IsClosed}
use Rattle.class_program.specs.Widths.{HasWidths}
use Rattle.frame_types.specs.Tables.{CodeTypes}
use Rattle.grow_laws.specs.CodeVerifyTypings.{IsTypingOf}
use Rattle.term_graph.specs.declared.links.Link.{Link}
use Rattle.term_graph.specs.declared.nodes.By.{By}
use Rattle.term_graph.specs.declared.nodes.By.TheVariants.{Instance}
use Rattle.term_graph.specs.Graphs.{GraphNode}
use Rattle.grow_laws.specs.place_sorts.Growing.{IsGrowing}
use Rattle.graph_build.specs.Answers.{IsClosed as HasNoOpenNode}
use Rattle.graph_build.specs.Disciplined.{IsNode, IsTree, IsDisciplined}
use Rattle.path_rules.specs.Paths.{is_cut, IsCut}
use Rattle.graph_check.specs.Good.{GraphOk}
use Rattle.graph_laws.specs.Growth.{growth_by}

-- disciplined graphs keep growing. Premises: the program is closed, and its numbers are of their fields' widths; the typing is the
-- program's own; the root's state is one from which a graph can grow; and the graph is disciplined for that root, with whatever heads. Then
-- each state of the graph is one from which a graph can grow
abbrev pub DisciplinedGraphsGrow : Type 0
DisciplinedGraphsGrow =
    (p : Program) (typing : ℕ → CodeTypes) (is_head : AbstractState → Bool) (root : AbstractState) (nodes : List GraphNode) → IsClosed p
    → HasWidths p → IsTypingOf p typing
    → IsGrowing p typing root → IsDisciplined (growth_by p typing is_head) root nodes → (n : ℕ) (state : AbstractState) (by : By)
    → IsNode nodes n state by
    → IsGrowing p typing state

-- a disciplined graph without an open node is good. Premises: the program is closed, and its numbers are of their fields' widths; the
-- typing is the program's own; the root's state is one from which a graph can grow; and the graph is disciplined for that root, with
-- whatever heads, and has no open node. Then it has links with which it is a good graph
abbrev pub DisciplinedGraphsAreGood : Type 0
DisciplinedGraphsAreGood =
    (p : Program) (typing : ℕ → CodeTypes) (is_head : AbstractState → Bool) (root : AbstractState) (nodes : List GraphNode) → IsClosed p
    → HasWidths p → IsTypingOf p typing
    → IsGrowing p typing root → IsDisciplined (growth_by p typing is_head) root nodes → HasNoOpenNode nodes → (links : List (List Link))
    × GraphOk p typing nodes root links

-- each node of which another one is an instance is a cut
abbrev pub HasTargetsCut : List GraphNode → List ℕ → Type 0
HasTargetsCut nodes cuts =
    (n target : ℕ) (state : AbstractState) (entries : List (ℕ × ℕ)) → IsNode nodes n state (Instance target entries)
    → is_cut cuts target ≡ true

-- where the nodes are a tree and each node of which another one is an instance is a cut, each cycle has a cut: along the other edges
-- numbers rise
abbrev pub TreesAreCut : Type 0
TreesAreCut = (nodes : List GraphNode) (parent : ℕ → ℕ) (cuts : List ℕ) → IsTree nodes parent → HasTargetsCut nodes cuts → IsCut nodes cuts
