-- Words for the calls that say what becomes of graphs and of bytes.
use Rattle.std.specs.Prelude.{◌≡◌, ◌≤◌, ℕ, List, length, Result, Ok, IfOk, IsTrue}
use Rattle.std.specs.List.{All, list_all}
use Rattle.abs_cells.specs.AbstractStates.{AbstractState}
use Rattle.class_base.specs.ClassNames.{is_class_name}
use Rattle.class_program.specs.Programs.{Program}
use Rattle.frame_types.specs.Tables.{CodeTypes}
use Rattle.input_desc.specs.declared.desc.Desc.{Desc}
use Rattle.input_desc.specs.Initial.{initial_of}
use Rattle.input_steps.specs.declared.refused.Refused.{Refused}
use Rattle.desc_steps.specs.Names.{names_of}
use Rattle.descent.specs.declared.proof.ProofStep.{ProofStep}
use Rattle.term_graph.specs.Graphs.{GraphNode}
use Rattle.graph_fill.specs.ChildrenOfStates.{IsFilledGraph}
use Rattle.cert_form.specs.Certificates.{CertContent, cert_of, SaysOf}
use Rattle.cert_check.specs.Parts.{case_of}
use Rattle.cert_check.specs.Valid.{Case, IsValid}
use Rattle.cert_form.specs.cert_write.Data.{content_of}
use Rattle.cert_form.specs.cert_write.Readable.{IsStep}
use Rattle.check_call.specs.declared.outcome.Outcome.{Outcome}
use Rattle.check_call.specs.Answers.{IsCertText}
use Rattle.cert_making.specs.migrate_call.Texts.{second_form, migrated}

-- what certificates that were read keep, so that they are written and read again: few ids in each state, and numbers and lists of the proof
-- within the limits
pub record IsWithinLimits (nodes : List GraphNode) (steps : List ProofStep) : Type 0 where
  pub ids : All (λ (node : GraphNode). length node.state.cells ≤ 512) nodes
  pub proof : All IsStep steps

-- where the status is 0 the outcome is the case's in form 2, whose text is read again
pub record IsWritten (case : Case) (outcome : Outcome) : Type 0 where
  pub valid : IsValid case
  pub is : outcome ≡ migrated case
  pub again : IsCertText case.program (second_form case) (content_of case.nodes case.cuts case.steps)

-- where the status is 0, the outcome is the case in form 2, whose text is read again
abbrev pub IsWrittenIfDone : Case → Result Outcome Refused → Type 0
IsWrittenIfDone case result = IfOk result (λ outcome. outcome.status ≡ 0 → IsWritten case outcome)

-- an outcome is what a certificate says, in form 2, once its nodes have the states that are left out
pub record IsWrittenOf (p : Program) (typing : ℕ → CodeTypes) (root : AbstractState) (content : CertContent) (outcome : Outcome) : Type
    0 where
  pub nodes : List GraphNode
  pub filled : IsFilledGraph p typing content.parts nodes
  pub written : IsWritten (case_of p typing root nodes content.cuts content.proof) outcome

-- where the status is 0, the outcome is what a certificate says, in form 2
abbrev pub IsWrittenOfIfDone : Program → (ℕ → CodeTypes) → AbstractState → CertContent → Result Outcome Refused → Type 0
IsWrittenOfIfDone p typing root content result = IfOk result (λ outcome. outcome.status ≡ 0 → IsWrittenOf p typing root content outcome)

-- an outcome is what the bytes of a certificate say, in form 2
pub record IsWrittenAgain (cert : List ℕ) (p : Program) (typing : ℕ → CodeTypes) (desc : Desc) (outcome : Outcome) : Type 0 where
  pub content : CertContent
  pub says : IsCertText p cert content
  pub written : IsWrittenOf p typing (initial_of p desc) content outcome

-- where the status is 0, the outcome is what the bytes of a certificate say, in form 2
abbrev pub IsWrittenAgainIfDone : List ℕ → Program → (ℕ → CodeTypes) → Desc → Result Outcome Refused → Type 0
IsWrittenAgainIfDone cert p typing desc result = IfOk result (λ outcome. outcome.status ≡ 0 → IsWrittenAgain cert p typing desc outcome)

-- the names of the classes of a program, by which types are written
pub record AreNames (p : Program) (names : List (List ℕ)) : Type 0 where
  pub named : IsTrue (list_all is_class_name names)
  pub own : names ≡ names_of p.world

-- some bytes say this content of a certificate, by these names
abbrev pub WasRead : List (List ℕ) → CertContent → Type 0
WasRead names content = (bytes : List ℕ) × SaysOf (cert_of names) bytes (Ok content)
