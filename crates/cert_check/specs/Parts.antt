-- The parts of a check: the case of a call, the links of a good graph, and the rules between good cuts.
use Rattle.std.specs.Prelude.{ℕ, List, Result, Ok, Err}
use Rattle.abs_cells.specs.AbstractStates.{AbstractState}
use Rattle.class_program.specs.Programs.{Program}
use Rattle.frame_types.specs.Tables.{CodeTypes}
use Rattle.descent.specs.declared.proof.ProofStep.{ProofStep}
use Rattle.descent.specs.declared.rules.PathRule.{PathRule}
use Rattle.term_graph.specs.declared.links.Link.{Link}
use Rattle.term_graph.specs.declared.links.Links.{Links}
use Rattle.term_graph.specs.Graphs.{GraphNode}
use Rattle.cert_check.specs.declared.refusal.Refusal.{Refusal}
use Rattle.cert_check.specs.Valid.{Case, HasGoodGraph, AreCuts, HasPathRules, Tells}

-- the case of a certificate whose graph has these nodes, in a program with this typing
abbrev pub case_of : Program → (ℕ → CodeTypes) → AbstractState → List GraphNode → List ℕ → List ProofStep → Case
case_of p typing root nodes cuts steps = record { program = p; typing = typing; root = root; nodes = nodes; cuts = cuts; steps = steps }

-- the links of a good graph, or the refusal for the graph's first fault
abbrev pub GraphOr : Case → Result Links Refusal → Type 0
GraphOr case (Ok links) = HasGoodGraph case links.nodes
GraphOr case (Err refusal) = Tells case (Err refusal)

-- the rules of the paths between good cuts, or the refusal for the cuts or the paths
abbrev pub RulesOr : Case → List (List Link) → Result (List PathRule) Refusal → Type 0
RulesOr case links (Ok rules) = AreCuts case × HasPathRules case links rules
RulesOr case links (Err refusal) = Tells case (Err refusal)
