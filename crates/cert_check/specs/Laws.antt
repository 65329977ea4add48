-- Walks and runs end where a certificate shows it.
use Rattle.std.specs.Prelude.{◌≡◌, ℕ, List}
use Rattle.jvm_values.specs.States.{MachineState}
use Rattle.class_program.specs.Programs.{Program, IsClosed}
use Rattle.class_program.specs.Widths.{HasWidths}
use Rattle.frame_types.specs.Tables.{CodeTypes}
use Rattle.code_verify.specs.Typings.{IsTypingOf}
use Rattle.jvm_step.specs.Running.{Ends, IsNeverStuck}
use Rattle.input_root.specs.InputDescDesc.{Desc}
use Rattle.input_root.specs.InputDescDescs.{IsOwnDesc}
use Rattle.input_root.specs.InputDescFitting.{FitsDescription}
use Rattle.input_root.specs.InputDescInitial.{initial_of}
use Rattle.abs_cells.specs.AbstractStates.{AbstractState}
use Rattle.term_graph.specs.declared.nodes.By.TheVariants.{End}
use Rattle.term_graph.specs.Graphs.{GraphNode}
use Rattle.path_rules.specs.Walks.{Spot}
use Rattle.descent.specs.Conditions.{AreSteps}
use Rattle.cert_check.specs.Certified.{IsCertified}
use Rattle.cert_check.specs.Valid.{Case, IsValid}
use Rattle.cert_check.specs.Walks.{Station, IsAt, WalksEnd, IsLast}

-- Walks end where it is certified. Premises: the program is closed, and its numbers are of their fields' widths; the typing is the
-- program's own; a certificate shows of nodes and cuts that the graph ends from a root's state; and at node 0 there is a typed state of the
-- machine that fits. Then every walk from there is finite
abbrev pub CertifiedWalksEnd : Type 0
CertifiedWalksEnd =
    (p : Program) (typing : ℕ → CodeTypes) (nodes : List GraphNode) (cuts : List ℕ) (root : AbstractState)
    → IsClosed p → HasWidths p → IsTypingOf p typing
    → (certified : IsCertified p typing nodes cuts root)
    → (spot : Spot) → IsAt p typing nodes (record { node = 0; spot = spot })
    → WalksEnd p typing nodes certified.links (record { node = 0; spot = spot })

-- Where a walk can't be continued, the node says that the run ends. Premises: the program is closed, and its numbers are of their fields'
-- widths; the typing is the program's own; a certificate shows of nodes and cuts that the graph ends from a root's state; and at some node
-- there is a typed state of the machine that fits, from which no edge leads on. Then that node is left as the end of the run
abbrev pub LastNodesEnd : Type 0
LastNodesEnd =
    (p : Program) (typing : ℕ → CodeTypes) (nodes : List GraphNode) (cuts : List ℕ) (root : AbstractState)
    → IsClosed p → HasWidths p → IsTypingOf p typing
    → (certified : IsCertified p typing nodes cuts root)
    → (station : Station) (at : IsAt p typing nodes station) → IsLast p typing nodes certified.links station → at.node.by ≡ End

-- Runs end where it is certified. Premises: the program is closed, and its numbers are of their fields' widths; the typing is the program's
-- own; the description is one of this program; and a certificate shows of nodes and cuts that the graph ends from the description's initial
-- state. Then every state that the description fits ends, and none of its runs is stuck
abbrev pub CertifiedRunsEnd : Type 0
CertifiedRunsEnd =
    (p : Program) (typing : ℕ → CodeTypes) (desc : Desc) (nodes : List GraphNode) (cuts : List ℕ)
    → IsClosed p → HasWidths p → IsTypingOf p typing → IsOwnDesc p desc
    → IsCertified p typing nodes cuts (initial_of p desc)
    → (state : MachineState) → FitsDescription p desc state → Ends p state × IsNeverStuck p state

-- Runs end where a certificate is valid. Premises: the certificate is valid and begins with the description's initial state; the program is
-- closed, and its numbers are of their fields' widths; the typing is the program's own; the description is one of this program; and the
-- steps of the certificate's proof are within the limits of proofs. Then every state that the description fits ends, and none of its runs
-- is stuck
abbrev pub ValidCertificatesEnd : Type 0
ValidCertificatesEnd =
    (case : Case) (valid : IsValid case) (desc : Desc) → case.root ≡ initial_of case.program desc
    → IsClosed case.program → HasWidths case.program → IsTypingOf case.program case.typing → IsOwnDesc case.program desc
    → AreSteps case.steps
    → (state : MachineState) → FitsDescription case.program desc state → Ends case.program state × IsNeverStuck case.program state
