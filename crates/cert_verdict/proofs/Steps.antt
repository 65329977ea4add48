-- The verdict on bytes, by what is read of them.
use Rattle.std.proofs.Common.{◌≡◌, ℕ, List, Result, Ok, Err, IfOk, refl}
use Rattle.abs_cells.specs.AbstractStates.{AbstractState}
use Rattle.class_program.specs.Programs.{Program}
use Rattle.frame_types.specs.Tables.{CodeTypes}
use Rattle.term_graph.specs.Graphs.{GraphNode}
use Rattle.graph_fill.specs.ChildrenOfStates.{IsFilledGraph}
use Rattle.cert_form.specs.declared.fault.CertFault.{CertFault}
use Rattle.cert_form.specs.declared.fault.CertFault.TheVariants as certs
use Rattle.cert_form.specs.Certificates.{CertContent, cert_of, AnswersText}
use Rattle.cert_verdict.specs.declared.verdict.CertVerdict.{CertVerdict}
use Rattle.cert_verdict.specs.declared.verdict.CertVerdict.TheVariants.{Accepted, Refused, NoText}
use Rattle.cert_verdict.specs.Verdicts.{SaysNone, Judges}
use Rattle.cert_verdict.specs.inner.Words.{IsChecked, IsOfContent}

module _ (p : Program) (typing : ℕ → CodeTypes) (root : AbstractState) where
  judges : (names : List (List ℕ)) (bytes : List ℕ) (content : CertContent) (verdict : CertVerdict)
      → AnswersText (cert_of names) bytes (Ok content) → IsOfContent p typing root content verdict
      → Judges p typing root names bytes verdict
  judges names bytes content Accepted said h = record
      { content = content; says = said; nodes = h.0; filled = h.1.0; valid = h.1.1.0; certified = h.1.1.1 }
  judges names bytes content (Refused item cause) said h = record
      { content = content; says = said; nodes = h.0; filled = h.1.0; fails = h.1.1 }
  judges names bytes content (NoText fault) said h = absurd h.1.1

module _ {E : Type 0} (p : Program) (typing : ℕ → CodeTypes) (root : AbstractState) where
  pub of_content : (content : CertContent) (nodes : List GraphNode) (result : Result CertVerdict E)
      → IsFilledGraph p typing content.parts nodes → IfOk result (IsChecked p typing root nodes content.cuts content.proof)
      → IfOk result (IsOfContent p typing root content)
  of_content content nodes (Ok verdict) filled h = (nodes, (filled, h))
  of_content content nodes (Err error) filled h = tt

  pub of_bytes : (names : List (List ℕ)) (bytes : List ℕ) (content : CertContent) (result : Result CertVerdict E)
      → AnswersText (cert_of names) bytes (Ok content) → IfOk result (IsOfContent p typing root content)
      → IfOk result (Judges p typing root names bytes)
  of_bytes names bytes content (Ok verdict) said h = judges p typing root names bytes content verdict said h
  of_bytes names bytes content (Err error) said h = tt

pub no_text : (names : List (List ℕ)) (bytes : List ℕ) (fault : CertFault) → (fault ≡ certs.Memory → ⊥)
    → AnswersText (cert_of names) bytes (Err fault) → SaysNone names bytes fault
no_text names bytes (certs.Json fault) other h = h
no_text names bytes (certs.Limit place) other h = h
no_text names bytes certs.Memory other h = absurd (other refl)
