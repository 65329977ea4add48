-- What a check of a bound is to answer, and what bounds promise of runs.
use Rattle.std.specs.Prelude.{◌≡◌, ◌≤◌, ℕ, List, ◌++◌, None, Some, Result, Ok, Err}
use Rattle.jvm_values.specs.States.{MachineState}
use Rattle.abs_cells.specs.AbstractStates.{AbstractState}
use Rattle.class_program.specs.Programs.{Program, IsClosed}
use Rattle.class_program.specs.Widths.{HasWidths}
use Rattle.frame_types.specs.Tables.{CodeTypes}
use Rattle.code_verify.specs.Typings.{IsTypingOf}
use Rattle.jvm_run.specs.jvm_step.Running.{run, IsEnd}
use Rattle.input_desc.specs.declared.desc.Desc.{Desc}
use Rattle.input_desc.specs.Descs.{IsOwnDesc}
use Rattle.input_desc.specs.Fitting.{FitsDescription}
use Rattle.input_desc.specs.Initial.{initial_of}
use Rattle.input_root.specs.Roots.{input_values}
use Rattle.descent.specs.declared.rules.PathRule.{PathRule}
use Rattle.descent.specs.Conditions.{AreSteps}
use Rattle.descent.specs.declared.proof.ProofStep.{ProofStep}
use Rattle.term_graph.specs.declared.links.Link.{Link}
use Rattle.term_graph.specs.Graphs.{GraphNode}
use Rattle.cert_check.specs.Valid.{Case, IsValid}
use Rattle.bound_check.specs.declared.bound.Bound.{Bound}
use Rattle.bound_check.specs.declared.fault.BoundFault.{BoundFault}
use Rattle.bound_check.specs.declared.fault.BoundFault.TheVariants.{Memory}
use Rattle.bound_text.specs.declared.texts.BoundEntry.{BoundEntry}
use Rattle.bound_check.specs.Entries.{bound_fault}
use Rattle.bound_check.specs.Bounds.{IsBound, BoundWorth}

-- ---- answers

-- what a check of entries is to answer, of a certificate with these links and rules: the bound, where the entries have no fault, or their
-- first fault. Want of memory says nothing
abbrev pub BoundsOf : List GraphNode → List (List Link) → List ℕ → AbstractState → List PathRule → List ProofStep → List BoundEntry
    → Result Bound BoundFault → Type 0
BoundsOf nodes links cuts root rules steps entries (Ok bound) = (bound_fault rules steps entries ≡ None)
    × IsBound nodes links cuts root steps entries bound
BoundsOf nodes links cuts root rules steps entries (Err Memory) = Unit {0}
BoundsOf nodes links cuts root rules steps entries (Err fault) = bound_fault rules steps entries ≡ Some fault

-- what a check of entries is to answer, for the case of a certificate with its links and rules
abbrev pub Bounds : Case → List (List Link) → List PathRule → List BoundEntry → Result Bound BoundFault → Type 0
Bounds case links rules entries answer = BoundsOf case.nodes links case.cuts case.root rules case.steps entries answer

-- ---- promises

-- the run from a state that a description fits ends after at most the bound's value of instructions, where each id stands for the value of
-- the input of its number
pub record IsBounded (p : Program) (desc : Desc) (bound : Bound) (state : MachineState) (fits : FitsDescription p desc state) : Type 0 where
  pub value : ℕ
  pub worth : BoundWorth state (input_values (fits.args ++ state.statics)) bound value
  pub count : ℕ
  pub within : count ≤ value
  pub ends : IsEnd (run p count state)

-- bounds hold. Premises: the certificate is valid and begins with the description's initial state; the program is closed, and its numbers
-- are of their fields' widths; the typing is the program's own; the description is one of this program; the steps of the certificate's
-- proof are within the limits of proofs; and the entries have no fault and give this bound. Then every state that the description fits has
-- a run that ends after at most the bound's value of instructions
abbrev pub BoundsHold : Type 0
BoundsHold =
    (case : Case) (valid : IsValid case) (desc : Desc) (entries : List BoundEntry)
    (bound : Bound) → case.root ≡ initial_of case.program desc
    → IsClosed case.program → HasWidths case.program → IsTypingOf case.program case.typing → IsOwnDesc case.program desc
    → AreSteps case.steps → Bounds case valid.links valid.rules entries (Ok bound)
    → (state : MachineState) (fits : FitsDescription case.program desc state) → IsBounded case.program desc bound state fits
