-- What is said of a valid certificate's bound, by its parts.
use Rattle.std.proofs.Common.{◌≡◌, ℕ, zero, suc, ◌<◌, List, [], ◌∷◌, length, Result, Ok, Err, Option, Some, None, All, IfOk, refl, sym}
use Rattle.std.proofs.Common.{ap, ◌∙◌, subst, arith}
use Rattle.std.specs.Prelude.{◌≢◌, slice_get}
use Rattle.json_view.specs.declared.fault.JsonFault.{JsonFault}
use Rattle.json_view.specs.declared.fault.JsonFault.TheVariants as json
use Rattle.input_text.specs.Answers.{SaysOf}
use Rattle.abs_cells.specs.AbstractStates.{AbstractState}
use Rattle.abs_cells.specs.Sound.{IsWellFormed}
use Rattle.class_program.specs.Programs.{Program, IsClosed}
use Rattle.class_program.specs.Widths.{HasWidths}
use Rattle.frame_types.specs.Tables.{CodeTypes}
use Rattle.code_verify.specs.Typings.{IsTypingOf}
use Rattle.descent.specs.declared.proof.ProofStep.{ProofStep}
use Rattle.descent.specs.declared.rules.PathRule.{PathRule}
use Rattle.descent.specs.Conditions.{AreSteps}
use Rattle.term_graph.specs.declared.links.Link.{Link}
use Rattle.term_graph.specs.declared.links.Links.{Links}
use Rattle.term_graph.specs.Graphs.{GraphNode}
use Rattle.cert_check.specs.graph_check.Good.{GraphOk}
use Rattle.cert_check.specs.declared.refusal.Refusal.{Refusal}
use Rattle.cert_check.specs.Valid.{Case, IsValid, AreCuts, HasGoodGraph}
use Rattle.cert_check.specs.Parts.{case_of}
use Rattle.cert_check.proofs.Showing.{well_formed}
use Rattle.bound_text.specs.declared.texts.BoundText.{BoundText}
use Rattle.bound_text.specs.declared.texts.BoundEntry.{BoundEntry}
use Rattle.bound_text.specs.Reading.{AnswersText}
use Rattle.bound_text.specs.Texts.{bound_text_of}
use Rattle.bound_check.specs.declared.bound.Bound.{Bound}
use Rattle.bound_check.specs.declared.fault.BoundFault.{BoundFault}
use Rattle.bound_check.specs.declared.fault.BoundFault.TheVariants as faults
use Rattle.bound_check.specs.declared.refusal.BoundRefusal.{BoundRefusal}
use Rattle.bound_check.specs.declared.refusal.BoundRefusal.TheVariants.{NoText, Faulty}
use Rattle.bound_check.specs.Laws.{BoundsOf, BoundsHold}
use Rattle.bound_check.specs.Answers.{IsAnswered, SaysNone, IsFaulty, Bounded, OwnRunsBounded}
use Rattle.bound_check.specs.ValidParts.{PartsOr}
use Rattle.bound_check.specs.inner.Checking.{IsFault, IsNoText, AreFaulty, AreTold, IsTold}

-- ---- the root

pub root_good : (p : Program) (typing : ℕ → CodeTypes) (nodes : List GraphNode) (root : AbstractState) (links : List (List Link))
    → GraphOk p typing nodes root links → IsWellFormed root
root_good p typing nodes root links graph =
    let rooted = graph.rooted in
    subst IsWellFormed rooted.state_is (at nodes 0 rooted.node (well_formed p typing nodes links graph.each) rooted.is)
  where
    at : (ns : List GraphNode) (n : ℕ) (node : GraphNode) → All (λ (m : GraphNode). IsWellFormed m.state) ns
        → slice_get ns n ≡ Some node → IsWellFormed node.state
    at [] n node all e = absurd (cc)
    at (x ∷ ns) zero node all e = let same : x ≡ node = cc in subst (λ (m : GraphNode). IsWellFormed m.state) same (all 0 x (omega arith))
    at (x ∷ ns) (suc n) node all e = at ns n node (λ k d l. all (suc k) d (omega (arith, l))) e

-- ---- entries and texts

by_fault : (rules : List PathRule) (steps : List ProofStep) (entries : List BoundEntry) (nodes : List GraphNode)
    (links : List (List Link)) (cuts : List ℕ) (root : AbstractState) (fault : BoundFault) → (fault ≢ faults.Memory)
    → BoundsOf nodes links cuts root rules steps entries (Err fault) → AreFaulty rules steps entries fault
by_fault rules steps entries nodes links cuts root (faults.NotRank entry step) other is = is
by_fault rules steps entries nodes links cuts root (faults.BadList entry) other is = is
by_fault rules steps entries nodes links cuts root (faults.Lin entry fault) other is = is
by_fault rules steps entries nodes links cuts root (faults.NotWeak entry rule) other is = is
by_fault rules steps entries nodes links cuts root (faults.Missing step) other is = is
by_fault rules steps entries nodes links cuts root faults.Memory other is = absurd (other refl)

pub fault_told : {E : Type 0} (nodes : List GraphNode) (links : List (List Link)) (cuts : List ℕ) (root : AbstractState)
    (rules : List PathRule) (steps : List ProofStep) (entries : List BoundEntry) (fault : BoundFault)
    (result : Result (Result Bound BoundRefusal) E) → BoundsOf nodes links cuts root rules steps entries (Err fault)
    → IfOk result (IsFault fault) → IfOk result (AreTold nodes links cuts root rules steps entries)
fault_told nodes links cuts root rules steps entries fault (Ok answer) is told =
    subst (λ (a : Result Bound BoundRefusal). AreTold nodes links cuts root rules steps entries a) (sym told.1)
    (by_fault rules steps entries nodes links cuts root fault told.0 is)
fault_told nodes links cuts root rules steps entries fault (Err error) is told = tt

by_none : (bytes : List ℕ) (fault : JsonFault) → (fault ≢ json.Memory) → AnswersText bytes (Err fault) → SaysNone bytes fault
by_none bytes json.NotJson other is = is
by_none bytes (json.WrongKind place) other is = is
by_none bytes (json.MissingField place) other is = is
by_none bytes (json.UnknownField place) other is = is
by_none bytes (json.OutOfRange place) other is = is
by_none bytes json.Memory other is = absurd (other refl)

pub none_told : {E : Type 0} (nodes : List GraphNode) (links : List (List Link)) (cuts : List ℕ) (root : AbstractState)
    (rules : List PathRule) (steps : List ProofStep) (bytes : List ℕ) (fault : JsonFault)
    (result : Result (Result Bound BoundRefusal) E) → AnswersText bytes (Err fault) → IfOk result (IsNoText fault)
    → IfOk result (IsTold nodes links cuts root rules steps bytes)
none_told nodes links cuts root rules steps bytes fault (Ok answer) is told =
    subst (λ (a : Result Bound BoundRefusal). IsTold nodes links cuts root rules steps bytes a) (sym told.1)
    (by_none bytes fault told.0 is)
none_told nodes links cuts root rules steps bytes fault (Err error) is told = tt

module _ (nodes : List GraphNode) (links : List (List Link)) (cuts : List ℕ) (root : AbstractState) (rules : List PathRule)
    (steps : List ProofStep) where
  one_told : (bytes : List ℕ) (text : BoundText) (answer : Result Bound BoundRefusal) → SaysOf bound_text_of bytes (Ok text)
      → AreTold nodes links cuts root rules steps text.ranks answer → IsTold nodes links cuts root rules steps bytes answer
  one_told bytes text (Ok bound) says told = record { text = text; says = says; told = told }
  one_told bytes text (Err (NoText fault)) says told = absurd told
  one_told bytes text (Err (Faulty fault)) says told = record { text = text; says = says; told = told }

  pub text_told : {E : Type 0} (bytes : List ℕ) (text : BoundText) (result : Result (Result Bound BoundRefusal) E)
      → SaysOf bound_text_of bytes (Ok text) → IfOk result (AreTold nodes links cuts root rules steps text.ranks)
      → IfOk result (IsTold nodes links cuts root rules steps bytes)
  text_told bytes text (Ok answer) says told = one_told bytes text answer says told
  text_told bytes text (Err error) says told = tt

-- ---- the whole

abbrev valid_of : (case : Case) (parts : Links × List PathRule) → PartsOr case (Ok parts) → IsValid case
valid_of case parts is = record {
  links = parts.0.nodes;
  graph = is.0;
  cuts = is.1.0.0;
  rules = parts.1;
  paths = is.1.0.1;
  proof = is.1.1;
}

-- what is said of a certificate's bound beside these parts
abbrev pub IsToldOf : Case → Links × List PathRule → List ℕ → Result Bound BoundRefusal → Type 0
IsToldOf case parts bytes answer = IsTold case.nodes parts.0.nodes case.cuts case.root parts.1 case.steps bytes answer

faulty_of : (case : Case) (parts : Links × List PathRule) (bytes : List ℕ) (fault : BoundFault) → PartsOr case (Ok parts)
    → IsToldOf case parts bytes (Err (Faulty fault)) → IsFaulty case bytes fault
faulty_of case parts bytes faults.Memory is told = absurd told.told
faulty_of case parts bytes (faults.NotRank entry step) is told = record
    { valid = valid_of case parts is; text = told.text; says = told.says; bounds = told.told }
faulty_of case parts bytes (faults.BadList entry) is told = record
    { valid = valid_of case parts is; text = told.text; says = told.says; bounds = told.told }
faulty_of case parts bytes (faults.Lin entry fault) is told = record
    { valid = valid_of case parts is; text = told.text; says = told.says; bounds = told.told }
faulty_of case parts bytes (faults.NotWeak entry rule) is told = record
    { valid = valid_of case parts is; text = told.text; says = told.says; bounds = told.told }
faulty_of case parts bytes (faults.Missing step) is told = record
    { valid = valid_of case parts is; text = told.text; says = told.says; bounds = told.told }

pub all_told : (case : Case) (parts : Links × List PathRule) (bytes : List ℕ) (answer : Result Bound BoundRefusal)
    → PartsOr case (Ok parts) → IsToldOf case parts bytes answer → Bounded case bytes (Ok answer)
all_told case parts bytes (Ok bound) is told = record
    { valid = valid_of case parts is; text = told.text; says = told.says; bounds = told.told }
all_told case parts bytes (Err (NoText fault)) is told = (valid_of case parts is, told)
all_told case parts bytes (Err (Faulty fault)) is told = faulty_of case parts bytes fault is told

-- the same where the nodes and the rules are told by equations
pub told_by : (p : Program) (typing : ℕ → CodeTypes) (root : AbstractState) (nodes now : List GraphNode) (cuts : List ℕ)
    (steps : List ProofStep) (links : Links) (rules list : List PathRule) (bytes : List ℕ) (answer : Result Bound BoundRefusal)
    → now ≡ nodes → list ≡ rules → PartsOr (case_of p typing root nodes cuts steps) (Ok (links, rules))
    → IsTold now links.nodes cuts root list steps bytes answer → Bounded (case_of p typing root nodes cuts steps) bytes (Ok answer)
told_by p typing root nodes now cuts steps links rules list bytes answer same are is told =
    all_told (case_of p typing root nodes cuts steps) (links, rules) bytes answer is
    (subst (λ (rs : List PathRule). IsTold nodes links.nodes cuts root rs steps bytes answer) are
    (subst (λ (ns : List GraphNode). IsTold ns links.nodes cuts root list steps bytes answer) same told))

-- a bound holds of the runs of the program
pub all_bounded : (p : Program) (typing : ℕ → CodeTypes) (root : AbstractState) (nodes : List GraphNode) (cuts : List ℕ)
    (steps : List ProofStep) (bytes : List ℕ) (answer : Result Bound BoundRefusal) → BoundsHold → IsClosed p → HasWidths p
    → IsTypingOf p typing → AreSteps steps → Bounded (case_of p typing root nodes cuts steps) bytes (Ok answer)
    → IfOk answer (OwnRunsBounded p root)
all_bounded p typing root nodes cuts steps bytes (Ok bound) hold closed widths typing_is steps_are is =
    λ desc own rooted state fits. hold (case_of p typing root nodes cuts steps) is.valid desc is.text.ranks bound rooted closed widths
    typing_is own steps_are is.bounds state fits
all_bounded p typing root nodes cuts steps bytes (Err refusal) hold closed widths typing_is steps_are is = tt
