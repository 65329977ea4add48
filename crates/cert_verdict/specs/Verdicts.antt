-- The verdict on the bytes of a certificate.
use Rattle.std.specs.Prelude.{ℕ, List, Ok, Err}
use Rattle.abs_cells.specs.AbstractStates.{AbstractState}
use Rattle.class_program.specs.Programs.{Program}
use Rattle.frame_types.specs.Tables.{CodeTypes}
use Rattle.term_graph.specs.Graphs.{GraphNode}
use Rattle.graph_fill.specs.ChildrenOfStates.{IsFilledGraph}
use Rattle.cert_form.specs.declared.fault.CertFault.{CertFault}
use Rattle.cert_form.specs.declared.fault.CertFault.TheVariants as certs
use Rattle.cert_form.specs.Certificates.{CertContent, cert_of, SaysOf, AnswersText}
use Rattle.cert_check.specs.declared.refusal.Cause.{Cause}
use Rattle.cert_check.specs.Certified.{IsCertified}
use Rattle.cert_check.specs.Valid.{IsValid, IsFirstFault}
use Rattle.cert_check.specs.Parts.{case_of}
use Rattle.cert_verdict.specs.declared.verdict.CertVerdict.{CertVerdict}
use Rattle.cert_verdict.specs.declared.verdict.CertVerdict.TheVariants.{Accepted, Refused, NoText}

-- the bytes say a certificate which, its nodes filled, is valid; so its graph, cuts and proof show that the program's runs end
pub record SaysValid (p : Program) (typing : ℕ → CodeTypes) (root : AbstractState) (names : List (List ℕ)) (bytes : List ℕ) : Type 0 where
  pub content : CertContent
  pub says : SaysOf (cert_of names) bytes (Ok content)
  pub nodes : List GraphNode
  pub filled : IsFilledGraph p typing content.parts nodes
  pub valid : IsValid (case_of p typing root nodes content.cuts content.proof)
  pub certified : IsCertified p typing nodes content.cuts root

-- the bytes say a certificate of which, its nodes filled, this item fails first, for this cause
pub record SaysFaulty (p : Program) (typing : ℕ → CodeTypes) (root : AbstractState) (names : List (List ℕ)) (bytes : List ℕ)
    (item : ℕ) (cause : Cause) : Type 0 where
  pub content : CertContent
  pub says : SaysOf (cert_of names) bytes (Ok content)
  pub nodes : List GraphNode
  pub filled : IsFilledGraph p typing content.parts nodes
  pub fails : IsFirstFault (case_of p typing root nodes content.cuts content.proof) item cause

-- the bytes say no certificate, and this is the first fault of the text
abbrev pub SaysNone : List (List ℕ) → List ℕ → CertFault → Type 0
SaysNone names bytes certs.Memory = ⊥
SaysNone names bytes fault = AnswersText (cert_of names) bytes (Err fault)

-- the verdict on the bytes of a certificate: they say a valid one, or one of which an item fails, or none
abbrev pub Judges : Program → (ℕ → CodeTypes) → AbstractState → List (List ℕ) → List ℕ → CertVerdict → Type 0
Judges p typing root names bytes Accepted = SaysValid p typing root names bytes
Judges p typing root names bytes (Refused item cause) = SaysFaulty p typing root names bytes item cause
Judges p typing root names bytes (NoText fault) = SaysNone names bytes fault
