-- What is found is within the limits of certificates, so that its text is read again.
use Rattle.std.specs.Prelude.{◌≡◌, ◌≤◌, ℕ, Bool, true, List, [], All, map, length, None}
use Rattle.class_read.specs.Content.{ClassContent}
use Rattle.class_program.specs.Good.{IsGood}
use Rattle.class_program.specs.Programs.{Program}
use Rattle.frame_types.specs.Tables.{CodeTypes}
use Rattle.abs_cells.specs.AbstractStates.{AbstractState}
use Rattle.term_graph.specs.declared.links.Link.{Link}
use Rattle.term_graph.specs.declared.nodes.By.{By}
use Rattle.term_graph.specs.Graphs.{GraphNode}
use Rattle.term_graph.specs.Limits.{most_nodes}
use Rattle.graph_build.specs.Disciplined.{IsNode, IsDisciplined}
use Rattle.graph_check.specs.Good.{GraphOk}
use Rattle.cert_verdict.specs.GraphFillLaws.{ArePartsOf}
use Rattle.graph_laws.specs.Growth.{growth_by}
use Rattle.cert_form.specs.cert_write.Data.{parts_from}
use Rattle.cert_form.specs.cert_write.Readable.{IsNode as IsReadableNode}
use Rattle.prove_core.specs.Stored.{IsStoredGraph}
use Rattle.class_world.specs.Linking.{is_linked}
use Rattle.class_world.specs.World.{World}
use Rattle.descent.specs.declared.proof.ProofStep.{ProofStep}
use Rattle.descent.specs.declared.rules.PathRule.{PathRule}
use Rattle.descent.specs.Conditions.{AreSteps}
use Rattle.descent.specs.Steps.{proof_fault}
use Rattle.chain_proofs.specs.Lean.{AreLean}
use Rattle.cert_form.specs.cert_write.Readable.{IsStep, AreDistinct}
use Rattle.prove_core.specs.ReadableRules.{AreReadableRules}

-- A closed proof without idle steps is readable, where its steps are within the limits of proofs, and the ids and rows of its rules are
-- within those of the text: each number is within its limits, and each list is in its order
abbrev pub ProofsAreReadable : Type 0
ProofsAreReadable =
    (rules : List PathRule) (steps : List ProofStep) → AreReadableRules rules → proof_fault rules steps ≡ None → AreSteps steps
    → AreLean rules steps → All IsStep steps

-- No state of a disciplined graph has more than 512 ids, if the root hasn't
abbrev pub DisciplinedGraphsHaveFewIds : Type 0
DisciplinedGraphsHaveFewIds =
    (p : Program) (typing : ℕ → CodeTypes) (is_head : AbstractState → Bool) (root : AbstractState) (nodes : List GraphNode) → IsGood p
    → length root.cells ≤ 512 → IsDisciplined (growth_by p typing is_head) root nodes → (n : ℕ) (state : AbstractState) (by : By)
    → IsNode nodes n state by
    → length state.cells ≤ 512

-- Each node of a good graph in memory is within the limits of the text, where the graph has no more nodes than a graph may have, no state
-- has more than 512 ids, and types are named by the names of the world's classes
abbrev pub GoodGraphsAreReadable : Type 0
GoodGraphsAreReadable =
    (p : Program) (typing : ℕ → CodeTypes) (nodes : List GraphNode) (root : AbstractState) (links : List (List Link))
    (names : List (List ℕ)) → names ≡ map (λ (class : ClassContent). class.name) p.world
    → GraphOk p typing nodes root links → length nodes ≤ most_nodes → IsStoredGraph nodes
    → All (λ (node : GraphNode). length node.state.cells ≤ 512) nodes
    → All (IsReadableNode names) nodes

-- What is written of a graph, in either form, are its nodes, some without their states
abbrev pub WrittenPartsAreOfGraphs : Type 0
WrittenPartsAreOfGraphs = (second : Bool) (nodes : List GraphNode) → ArePartsOf nodes (parts_from second [] nodes)

-- The classes of a linked world have different names
abbrev pub NamesOfWorldsDiffer : Type 0
NamesOfWorldsDiffer = (world : World) → is_linked world ≡ true → AreDistinct (map (λ (class : ClassContent). class.name) world)
