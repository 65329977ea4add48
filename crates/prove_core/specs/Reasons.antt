-- Why no certificate is given.
use Rattle.std.specs.Prelude.{◌≡◌, ℕ, ◌<◌, ◌≤◌, List, length, Ok, Err}
use Rattle.abs_cells.specs.AbstractStates.{AbstractState}
use Rattle.class_program.specs.Programs.{Program}
use Rattle.frame_types.specs.Tables.{CodeTypes}
use Rattle.descent.specs.Conditions.{AreSteps}
use Rattle.descent.specs.declared.proof.ProofStep.{ProofStep}
use Rattle.descent.specs.declared.rules.PathRule.{PathRule}
use Rattle.term_graph.specs.declared.links.Link.{Link}
use Rattle.term_graph.specs.Graphs.{GraphNode}
use Rattle.graph_build.specs.Disciplined.{IsDisciplined}
use Rattle.graph_build.specs.Answers.{IsClosed, IsStopped, PassesLimit, HasLarge}
use Rattle.graph_check.specs.Good.{GraphOk}
use Rattle.path_rules.specs.declared.fault.PathFault.{PathFault}
use Rattle.path_rules.specs.declared.fault.PathFault.TheVariants.{Uncut, TooManyPaths, TooManyRows, Memory}
use Rattle.path_rules.specs.Answers.{Answers as PathAnswers}
use Rattle.serde_json.specs.Written.{compact_text}
use Rattle.cert_form.specs.cert_write.Data.{certificate, content_of}
use Rattle.cert_verdict.specs.CertCheckValid.{IsValid}
use Rattle.cert_verdict.specs.CertCheckParts.{case_of}
use Rattle.chain_proofs.specs.declared.proving.LeftRule.{LeftRule}
use Rattle.chain_proofs.specs.Answers.{LeavesStuck}
use Rattle.chain_proofs.specs.Lean.{AreLean}
use Rattle.cert_form.specs.Limits.{most_certificate_bytes}
use Rattle.prove_core.specs.Cuts.{AreTargets}
use Rattle.prove_core.specs.Growth.{growth_of}

-- what is proved to end: a program with its typing, from a state on
pub record Aim : Type 0 where
  pub program : Program
  pub typing : ℕ → CodeTypes
  pub root : AbstractState

-- the aim of a program with its typing, from a state on
abbrev pub aim_of : Program → (ℕ → CodeTypes) → AbstractState → Aim
aim_of p typing root = record { program = p; typing = typing; root = root }

-- ---- graphs that stop

-- a disciplined graph has no more nodes than the limit, and its next growth would give it more
abbrev pub HasManyNodes : Aim → ℕ → List GraphNode → Type 0
HasManyNodes aim limit nodes =
    IsStopped (growth_of aim.program aim.typing) aim.root nodes
    (λ parent n state. PassesLimit (growth_of aim.program aim.typing) nodes parent n state limit) × (length nodes ≤ limit)

-- a disciplined graph has no more nodes than the limit, and its next growth has a state with more than 512 ids
abbrev pub HasManyIds : Aim → ℕ → List GraphNode → Type 0
HasManyIds aim limit nodes =
    IsStopped (growth_of aim.program aim.typing) aim.root nodes
    (λ parent n state. HasLarge (growth_of aim.program aim.typing) nodes parent n state) × (length nodes ≤ limit)

-- ---- whole graphs

-- a graph of the program's growth is whole: it is disciplined, has no open node, and is a good one with these links; its cuts are the root
-- and the targets of instances
pub record IsWhole (aim : Aim) (nodes : List GraphNode) (links : List (List Link)) (cuts : List ℕ) : Type 0 where
  pub disciplined : IsDisciplined (growth_of aim.program aim.typing) aim.root nodes
  pub closed : IsClosed nodes
  pub good : GraphOk aim.program aim.typing nodes aim.root links
  pub targets : AreTargets nodes cuts

-- a fault of paths is that there are too many of them, or too many rows in their rules
abbrev pub IsLong : PathFault → Type 0
IsLong (Uncut node) = ⊥
IsLong TooManyPaths = Unit {0}
IsLong (TooManyRows path) = Unit {0}
IsLong Memory = ⊥

-- a whole graph has no more nodes than the limit, and between its cuts there are too many paths, or too many rows in their rules
pub record HasLongPaths (aim : Aim) (limit : ℕ) (nodes : List GraphNode) : Type 0 where
  pub few : length nodes ≤ limit
  pub links : List (List Link)
  pub cuts : List ℕ
  pub whole : IsWhole aim nodes links cuts
  pub fault : PathFault
  pub fails : PathAnswers nodes links cuts (Err fault)
  pub long : IsLong fault

-- ---- certificates that are too long

-- the bytes of a certificate as it is written, in form 2
abbrev pub written : List (List ℕ) → List GraphNode → List ℕ → List ProofStep → List ℕ
written names nodes cuts steps = compact_text (certificate names (content_of nodes cuts steps))

-- a certificate is too long: it is valid, its graph is whole and has no more nodes than the limit, the steps of its proof are within the
-- limits of proofs and none is idle, and it has so many bytes, which are more than 16 MiB
pub record IsTooLong (aim : Aim) (limit : ℕ) (names : List (List ℕ)) (nodes : List GraphNode) (cuts : List ℕ)
    (steps : List ProofStep) (size : ℕ) : Type 0 where
  pub few : length nodes ≤ limit
  pub links : List (List Link)
  pub whole : IsWhole aim nodes links cuts
  pub valid : IsValid (case_of aim.program aim.typing aim.root nodes cuts steps)
  pub rules : List PathRule
  pub paths : PathAnswers nodes links cuts (Ok rules)
  -- its steps are within the limits of proofs: a split has a step, or -1, for each part
  pub limits : AreSteps steps
  pub lean : AreLean rules steps
  pub size_is : size ≡ length (written names nodes cuts steps)
  pub many : most_certificate_bytes < size

-- ---- rules that no form ranks

-- a proof comes to rules that no form ranks: the graph is whole and has no more nodes than the limit; the steps so far are within the
-- limits of proofs and hold, none of them is idle, and they leave rules to the next one that are stuck
pub record IsComponent (aim : Aim) (limit : ℕ) (nodes : List GraphNode) (cuts : List ℕ) (steps : List ProofStep)
    (left : List LeftRule) : Type 0 where
  pub few : length nodes ≤ limit
  pub links : List (List Link)
  pub whole : IsWhole aim nodes links cuts
  pub rules : List PathRule
  pub paths : PathAnswers nodes links cuts (Ok rules)
  pub lean : AreLean rules steps
  pub stuck : LeavesStuck rules steps left
