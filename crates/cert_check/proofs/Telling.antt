-- What the check of each part tells of the whole.
use Rattle.std.proofs.Common.{◌≡◌, ◌∙◌, ◌+◌, ◌↔◌, ℕ, Bool, true, false, IsTrue, List, length, None, Ok, Err, refl, sym, ap, subst}
use Rattle.std.proofs.Common.{true≢false}
use Rattle.abs_cells.specs.AbstractStates.{AbstractState}
use Rattle.class_program.specs.Programs.{Program}
use Rattle.frame_types.specs.Tables.{CodeTypes}
use Rattle.descent.specs.declared.faults.StepFault.{StepFault}
use Rattle.descent.specs.declared.faults.StepFault.TheVariants as proofs
use Rattle.descent.specs.declared.proof.ProofStep.{ProofStep}
use Rattle.descent.specs.declared.rules.PathRule.{PathRule}
use Rattle.descent.specs.Chains.{ChainsEnd}
use Rattle.descent.specs.Steps.{proof_fault, Refuses as ProofRefuses}
use Rattle.term_graph.specs.declared.links.Link.{Link}
use Rattle.term_graph.specs.declared.links.Links.{Links}
use Rattle.term_graph.specs.Graphs.{GraphNode}
use Rattle.path_rules.specs.declared.fault.PathFault.{PathFault}
use Rattle.path_rules.specs.declared.fault.PathFault.TheVariants as paths
use Rattle.path_rules.specs.Answers.{Answers as PathAnswers}
use Rattle.path_rules.specs.Conditions.{AreGood, IsReady}
use Rattle.graph_check.specs.declared.fault.CheckFault.{CheckFault}
use Rattle.graph_check.specs.declared.fault.CheckFault.TheVariants as graphs
use Rattle.graph_check.specs.Good.{GraphOk, Tells as GraphTells}
use Rattle.cert_check.specs.declared.refusal.Cause.TheVariants.{Cuts}
use Rattle.cert_check.specs.declared.refusal.Refusal.{Refusal}
use Rattle.cert_check.specs.declared.refusal.Refusal.TheVariants.{Item}
use Rattle.cert_check.specs.Certified.{IsCertified}
use Rattle.cert_check.specs.Valid.{Case, HasGoodGraph, Tells}
use Rattle.cert_check.specs.Parts.{case_of, GraphOr, RulesOr}
use Rattle.cert_check.specs.inner.PartChecks.{graph_refusal, path_refusal, proof_refusal, AreCutsOf}
use Rattle.cert_check.proofs.Preparing.{cuts_are, cuts_of, ready}

pub bad_graph : (case : Case) (fault : CheckFault) → GraphTells case.program case.typing case.nodes case.root (Err fault)
    → Tells case (Err (graph_refusal fault))
bad_graph case (graphs.At node what) is = record { node = node; fault = is; item_is = refl }
bad_graph case graphs.Memory is = tt

pub bad_cuts : (case : Case) (links : List (List Link)) → HasGoodGraph case links → (AreCutsOf (length case.nodes) case.cuts → ⊥)
    → Tells case (Err (Item (2 + length case.nodes) Cuts))
bad_cuts case links graph none = record { links = links; graph = graph; fails = λ cuts. none (cuts_of case cuts); item_is = refl }

pub bad_paths : (case : Case) (links : List (List Link)) (fault : PathFault) → HasGoodGraph case links
    → AreCutsOf (length case.nodes) case.cuts → PathAnswers case.nodes links case.cuts (Err fault)
    → Tells case (Err (path_refusal (length case.nodes) fault))
bad_paths case links paths.Memory graph cuts fails = tt
bad_paths case links (paths.Uncut node) graph cuts fails = record
    { links = links; graph = graph; cuts = cuts_are case cuts; fails = fails; known = λ e. absurd cc; item_is = refl }
bad_paths case links paths.TooManyPaths graph cuts fails = record
    { links = links; graph = graph; cuts = cuts_are case cuts; fails = fails; known = λ e. absurd cc; item_is = refl }
bad_paths case links (paths.TooManyRows path) graph cuts fails = record
    { links = links; graph = graph; cuts = cuts_are case cuts; fails = fails; known = λ e. absurd cc; item_is = refl }

pub bad_proof : (case : Case) (links : List (List Link)) (rules : List PathRule) (fault : StepFault) → HasGoodGraph case links
    → RulesOr case links (Ok rules) → ProofRefuses (Err fault) (proof_fault rules case.steps)
    → Tells case (Err (proof_refusal (length case.nodes) fault))
bad_proof case links rules (proofs.At step fault) graph is fails = record
    { links = links; graph = graph; cuts = is.0; rules = rules; paths = is.1; step = step; fails = fails; item_is = refl }
bad_proof case links rules proofs.Memory graph is fails = tt

pub valid : (case : Case) (links : List (List Link)) (rules : List PathRule) → HasGoodGraph case links
    → RulesOr case links (Ok rules) → proof_fault rules case.steps ≡ None → Tells case (Ok tt)
valid case links rules graph is closed = record { links = links; graph = graph; cuts = is.0; rules = rules; paths = is.1; proof = closed }

pub certified : (p : Program) (typing : ℕ → CodeTypes) (nodes : List GraphNode) (cuts : List ℕ) (root : AbstractState)
    (steps : List ProofStep) (links : List (List Link)) (rules : List PathRule) → GraphOk p typing nodes root links
    → AreGood nodes links → RulesOr (case_of p typing root nodes cuts steps) links (Ok rules) → ChainsEnd rules
    → IsCertified p typing nodes cuts root
certified p typing nodes cuts root steps links rules graph is answered ends = record {
  links = links;
  graph = graph;
  ready = ready nodes links cuts is (cuts_of (case_of p typing root nodes cuts steps) answered.0);
  cut = answered.1.0;
  rules = rules;
  are = answered.1.1;
  ends = ends;
}

-- ---- what each call returns

module _ (p : Program) (typing : ℕ → CodeTypes) (root : AbstractState) (nodes : List GraphNode) where
  pub links_good : (links : Links) → GraphTells p typing nodes root (Ok links) → (cuts : List ℕ) (steps : List ProofStep)
      → GraphOr (case_of p typing root nodes cuts steps) (Ok links)
  links_good links is cuts steps = is

  pub links_refused : (fault : CheckFault) (refusal : Refusal) → GraphTells p typing nodes root (Err fault)
      → refusal ≡ graph_refusal fault → (cuts : List ℕ) (steps : List ProofStep) → GraphOr (case_of p typing root nodes cuts steps)
      (Err refusal)
  links_refused fault refusal is e cuts steps = subst (λ (r : Refusal). Tells (case_of p typing root nodes cuts steps) (Err r))
      (sym e) (bad_graph (case_of p typing root nodes cuts steps) fault is)

  module _ (links : List (List Link)) (cuts : List ℕ) (count : ℕ) (graph : GraphOk p typing nodes root links)
      (counted : count ≡ length nodes) where
    pub cuts_refused : (are : Bool) → (IsTrue are ↔ AreCutsOf count cuts) → are ≡ false → (steps : List ProofStep)
        → RulesOr (case_of p typing root nodes cuts steps) links (Err (Item (2 + count) Cuts))
    cuts_refused are tests f steps =
        subst (λ (n : ℕ). Tells (case_of p typing root nodes cuts steps) (Err (Item (2 + n) Cuts))) (sym counted)
        (bad_cuts (case_of p typing root nodes cuts steps) links graph
        (λ cuts_good. true≢false (sym (tests.1 (subst (λ (n : ℕ). AreCutsOf n cuts) (sym counted) cuts_good)) ∙ f)))

    pub paths_refused : (are : Bool) (fault : PathFault) (refusal : Refusal) → (IsTrue are ↔ AreCutsOf count cuts) → are ≡ true
        → PathAnswers nodes links cuts (Err fault) → refusal ≡ path_refusal count fault → (steps : List ProofStep)
        → RulesOr (case_of p typing root nodes cuts steps) links (Err refusal)
    paths_refused are fault refusal tests t fails e steps =
        subst (λ (r : Refusal). Tells (case_of p typing root nodes cuts steps) (Err r))
        (sym (e ∙ ap (λ (n : ℕ). path_refusal n fault) counted))
        (bad_paths (case_of p typing root nodes cuts steps) links fault graph
        (subst (λ (n : ℕ). AreCutsOf n cuts) counted (tests.0 t)) fails)

    pub rules_given : (are : Bool) (rules : List PathRule) → (IsTrue are ↔ AreCutsOf count cuts) → are ≡ true
        → PathAnswers nodes links cuts (Ok rules) → (steps : List ProofStep) → RulesOr (case_of p typing root nodes cuts steps)
        links (Ok rules)
    rules_given are rules tests t answers steps =
        (cuts_are (case_of p typing root nodes cuts steps) (subst (λ (n : ℕ). AreCutsOf n cuts) counted (tests.0 t)), answers)

    pub proof_refused : (steps : List ProofStep) (rules : List PathRule) (fault : StepFault) (refusal : Refusal)
        → RulesOr (case_of p typing root nodes cuts steps) links (Ok rules) → ProofRefuses (Err fault) (proof_fault rules steps)
        → refusal ≡ proof_refusal count fault → Tells (case_of p typing root nodes cuts steps) (Err refusal)
    proof_refused steps rules fault refusal is fails e =
        subst (λ (r : Refusal). Tells (case_of p typing root nodes cuts steps) (Err r))
        (sym (e ∙ ap (λ (n : ℕ). proof_refusal n fault) counted))
        (bad_proof (case_of p typing root nodes cuts steps) links rules fault graph is fails)

pub ready_for : (nodes : List GraphNode) (links : List (List Link)) (cuts : List ℕ) (count : ℕ) (are : Bool)
    → AreGood nodes links → count ≡ length nodes → (IsTrue are ↔ AreCutsOf count cuts) → are ≡ true → IsReady nodes links cuts
ready_for nodes links cuts count are is counted tests t = ready nodes links cuts is
    (subst (λ (n : ℕ). AreCutsOf n cuts) counted (tests.0 t))
