-- Words of the private calls that grow graphs and give what is found.
use Rattle.std.specs.Prelude.{◌≡◌, ℕ, suc, ◌==◌, ◌||◌, nat_lt, slice_set, length, true, Bool, if◌then◌else◌, List, [], ◌∷◌, map}
use Rattle.std.specs.Prelude.{Result, Ok, Err, None}
use Rattle.abs_cells.specs.AbstractStates.{AbstractState}
use Rattle.abs_expand.specs.declared.fault.ExpandFault.{ExpandFault}
use Rattle.abs_expand.specs.declared.fault.ExpandFault.TheVariants as faults
use Rattle.class_program.specs.Programs.{Program}
use Rattle.frame_types.specs.Tables.{CodeTypes}
use Rattle.code_verify.specs.Typings.{IsTypingOf}
use Rattle.term_graph.specs.declared.nodes.By.{By}
use Rattle.term_graph.specs.declared.nodes.By.TheVariants.{Expand, Instance, End, Todo}
use Rattle.term_graph.specs.Graphs.{GraphNode, GraphChild}
use Rattle.graph_laws.specs.place_sorts.Growing.{IsGrowing}
use Rattle.graph_build.specs.declared.grower.Grown.{Grown}
use Rattle.graph_build.specs.declared.grower.Grown.TheVariants as grown
use Rattle.graph_build.specs.declared.grower.GrowFault.{GrowFault}
use Rattle.graph_build.specs.declared.grower.GrowFault.TheVariants.{TooManyIds, Memory}
use Rattle.graph_build.specs.Disciplined.{IsDisciplined}
use Rattle.graph_build.specs.Answers.{IsClosed}
use Rattle.prove_core.specs.Growth.{growth_of}
use Rattle.path_rules.specs.Answers.{Answers as PathAnswers}
use Rattle.descent.specs.Conditions.{AreSteps}
use Rattle.descent.specs.Steps.{proof_fault}
use Rattle.descent.specs.declared.proof.ProofStep.{ProofStep}
use Rattle.descent.specs.declared.rules.PathRule.{PathRule}
use Rattle.term_graph.specs.declared.links.Link.{Link}
use Rattle.chain_proofs.specs.Lean.{AreLean}
use Rattle.cert_verdict.specs.CertCheckParts.{case_of}
use Rattle.cert_verdict.specs.CertCheckValid.{IsValid}
use Rattle.prove_core.specs.Reasons.{Aim, IsWhole}

-- ---- states

-- what a grower keeps: a program with its typing
pub record Scope : Type 0 where
  pub program : Program
  pub typing : ℕ → CodeTypes

-- what a grower asks of a state: the typing is the program's own, and graphs grow from the state
pub record CanGrow (p : Program) (typing : ℕ → CodeTypes) (state : AbstractState) : Type 0 where
  pub typing_is : IsTypingOf p typing
  pub grows : IsGrowing p typing state

-- what a state with these children becomes, as a grower answers it
abbrev pub BecomesThese : {P : Type 0} → List GraphChild → Result (Grown P) GrowFault → Type 0
BecomesThese children (Ok grown.End) = ⊥
BecomesThese children (Ok (grown.Children states)) = states ≡ map (λ (child : GraphChild). child.state) children
BecomesThese children (Err TooManyIds) = ⊥
BecomesThese children (Err Memory) = Unit {0}

-- the fault of an expansion, as one of growing; a state from which graphs grow breaks no clause
abbrev pub IsGrowFault : ExpandFault → GrowFault → Type 0
IsGrowFault (faults.TooManyIds child) fault = fault ≡ TooManyIds
IsGrowFault (faults.BadState clause) fault = ⊥
IsGrowFault faults.Memory fault = fault ≡ Memory

-- ---- cuts

-- marks of nodes, with one for the node of which a node that is left in this way is an instance
abbrev pub marked_by : By → List Bool → List Bool
marked_by (Expand named) marks = marks
marked_by (Instance target entries) marks = if nat_lt target (length marks) then slice_set marks target true else marks
marked_by End marks = marks
marked_by Todo marks = marks

-- the number 0, and those of the marks that are set, which are counted from n
abbrev pub cuts_from : ℕ → List Bool → List ℕ
cuts_from n [] = []
cuts_from n (mark ∷ marks) = if (n == 0) || mark then n ∷ cuts_from (suc n) marks else cuts_from (suc n) marks

-- ---- graphs

-- a whole graph with its cuts, and a closed proof for the rules of its paths, without idle steps
pub record IsProved (aim : Aim) (nodes : List GraphNode) (cuts : List ℕ) (steps : List ProofStep) : Type 0 where
  pub links : List (List Link)
  pub whole : IsWhole aim nodes links cuts
  pub valid : IsValid (case_of aim.program aim.typing aim.root nodes cuts steps)
  pub rules : List PathRule
  pub paths : PathAnswers nodes links cuts (Ok rules)
  pub closed : proof_fault rules steps ≡ None
  pub limits : AreSteps steps
  pub lean : AreLean rules steps

-- a graph that grew from the root, with no open node
abbrev pub IsGrownGraph : Aim → List GraphNode → Type 0
IsGrownGraph aim nodes = IsDisciplined (growth_of aim.program aim.typing) aim.root nodes × IsClosed nodes
