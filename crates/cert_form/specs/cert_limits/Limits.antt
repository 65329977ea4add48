-- What a certificate that was read keeps.
use Rattle.std.specs.Prelude.{◌≤◌, ℕ, List, All, length, Option, Some, None, Ok}
use Rattle.abs_cells.specs.AbstractStates.{AbstractState}
use Rattle.abs_cells.specs.Limits.{most_ids}
use Rattle.cert_form.specs.Certificates.{CertContent, cert_of, SaysOf}
use Rattle.cert_form.specs.cert_write.Readable.{IsStep}
use Rattle.term_graph.specs.Graphs.{GraphPart}

-- a state that is given has no more ids than the state of a certificate may have
abbrev pub HasFewIds : Option AbstractState → Type 0
HasFewIds (Some state) = length state.cells ≤ most_ids
HasFewIds None = Unit {0}

-- a certificate's content is within the limits: the steps of its proof are such as are read again, and no state has more ids than a
-- certificate may name
pub record KeepsLimits (content : CertContent) : Type 0 where
  pub steps : All IsStep content.proof
  pub ids : All (λ (part : GraphPart). HasFewIds part.state) content.parts

-- what any bytes say of a certificate, where they say one, is within the limits
abbrev pub ReadCertificatesKeepLimits : Type 0
ReadCertificatesKeepLimits = (names : List (List ℕ)) (bytes : List ℕ) (content : CertContent) → SaysOf (cert_of names) bytes (Ok content)
    → KeepsLimits content
