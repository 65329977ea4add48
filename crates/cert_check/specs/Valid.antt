-- Valid certificates, and the first item of one that fails.
use Rattle.std.specs.Prelude.{◌≡◌, ◌<◌, ◌+◌, ℕ, List, All, length, Some, None, slice_get, Result, Ok, Err}
use Rattle.abs_cells.specs.AbstractStates.{AbstractState}
use Rattle.class_program.specs.Programs.{Program}
use Rattle.frame_types.specs.Tables.{CodeTypes}
use Rattle.descent.specs.declared.faults.DescentFault.{DescentFault}
use Rattle.descent.specs.declared.faults.StepFault.TheVariants.{At}
use Rattle.descent.specs.declared.proof.ProofStep.{ProofStep}
use Rattle.descent.specs.declared.rules.PathRule.{PathRule}
use Rattle.descent.specs.Steps.{proof_fault}
use Rattle.term_graph.specs.declared.links.Link.{Link}
use Rattle.term_graph.specs.Graphs.{GraphNode}
use Rattle.path_rules.specs.declared.fault.PathFault.{PathFault}
use Rattle.path_rules.specs.declared.fault.PathFault.TheVariants as paths
use Rattle.path_rules.specs.Answers.{Answers as HasRulesOr}
use Rattle.path_rules.specs.Conditions.{CutsRise}
use Rattle.graph_check.specs.declared.fault.What.{What}
use Rattle.graph_check.specs.declared.fault.What.TheVariants as whats
use Rattle.graph_check.specs.Good.{GraphOk, IsFault}
use Rattle.cert_check.specs.declared.refusal.Cause.{Cause}
use Rattle.cert_check.specs.declared.refusal.Cause.TheVariants.{Graph, Cuts, Path, Proof}
use Rattle.cert_check.specs.declared.refusal.Refusal.{Refusal}
use Rattle.cert_check.specs.declared.refusal.Refusal.TheVariants.{Item, Memory}

-- what a check of a certificate is handed: a program with its typing, the state that the certificate is to begin with, and the
-- certificate's nodes, cuts and proof
pub record Case : Type 0 where
  pub program : Program
  pub typing : ℕ → CodeTypes
  pub root : AbstractState
  pub nodes : List GraphNode
  pub cuts : List ℕ
  pub steps : List ProofStep

-- ---- the items, each where those before it hold

-- the certificate's graph is a good one with the state to begin with at node 0, and these are its links
abbrev pub HasGoodGraph : Case → List (List Link) → Type 0
HasGoodGraph case links = GraphOk case.program case.typing case.nodes case.root links

-- the certificate's cuts are good: they are nodes, rise, and begin with node 0
pub record AreCuts (case : Case) : Type 0 where
  pub first : slice_get case.cuts 0 ≡ Some 0
  pub rise : CutsRise 0 case.cuts
  pub nodes : All (λ (cut : ℕ). cut < length case.nodes) case.cuts

-- every cycle of the certificate's graph has a cut, and these are the rules of the paths from cut to cut
abbrev pub HasPathRules : Case → List (List Link) → List PathRule → Type 0
HasPathRules case links rules = HasRulesOr case.nodes links case.cuts (Ok rules)

-- ---- valid certificates

-- a certificate is valid: its graph is good, its cuts are, the paths between them have rules, and its proof is closed for these, so that no
-- chain of them is infinite
pub record IsValid (case : Case) : Type 0 where
  pub links : List (List Link)
  pub graph : HasGoodGraph case links
  pub cuts : AreCuts case
  pub rules : List PathRule
  pub paths : HasPathRules case links rules
  pub proof : proof_fault rules case.steps ≡ None

-- ---- the first item that fails

-- the number of the item that a fault of the graph is of: item 1 is the root, item 2 + k is node k
abbrev pub graph_item : ℕ → What → ℕ
graph_item node whats.Root = 1
graph_item node _ = 2 + node

-- the first item that fails is the root, or a node, which isn't as the expansion of its state says
pub record HasGraphFault (case : Case) (item : ℕ) (what : What) : Type 0 where
  pub node : ℕ
  pub fault : IsFault case.program case.typing case.nodes case.root node what
  pub item_is : item ≡ graph_item node what

-- the first item that fails is the cuts: the graph is good, but they aren't nodes, don't rise, or don't begin with node 0
pub record HasCutsFault (case : Case) (item : ℕ) : Type 0 where
  pub links : List (List Link)
  pub graph : HasGoodGraph case links
  pub fails : AreCuts case → ⊥
  pub item_is : item ≡ 2 + length case.nodes

-- the first item that fails is the paths: graph and cuts are good, but a cycle has no cut, or there are too many paths, or a rule has too
-- many rows
pub record HasPathFault (case : Case) (item : ℕ) (fault : PathFault) : Type 0 where
  pub links : List (List Link)
  pub graph : HasGoodGraph case links
  pub cuts : AreCuts case
  pub fails : HasRulesOr case.nodes links case.cuts (Err fault)
  pub known : fault ≡ paths.Memory → ⊥
  pub item_is : item ≡ 3 + length case.nodes

-- the first item that fails is a step of the proof: graph, cuts and paths are good, and this is the first fault of the first step that has
-- one
pub record HasProofFault (case : Case) (item : ℕ) (fault : DescentFault) : Type 0 where
  pub links : List (List Link)
  pub graph : HasGoodGraph case links
  pub cuts : AreCuts case
  pub rules : List PathRule
  pub paths : HasPathRules case links rules
  pub step : ℕ
  pub fails : proof_fault rules case.steps ≡ Some (At step fault)
  pub item_is : item ≡ 4 + length case.nodes + step

-- the first item of a certificate that fails, by its number, with the cause
abbrev pub IsFirstFault : Case → ℕ → Cause → Type 0
IsFirstFault case item (Graph what) = HasGraphFault case item what
IsFirstFault case item Cuts = HasCutsFault case item
IsFirstFault case item (Path fault) = HasPathFault case item fault
IsFirstFault case item (Proof fault) = HasProofFault case item fault

-- what a check of a certificate is to answer: that it is valid, or its first item that fails, with the cause. Want of memory says nothing
abbrev pub Tells : Case → Result (Unit {0}) Refusal → Type 0
Tells case (Ok done) = IsValid case
Tells case (Err (Item item cause)) = IsFirstFault case item cause
Tells case (Err Memory) = Unit {0}
