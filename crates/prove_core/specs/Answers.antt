-- What a search answers.
use Rattle.std.specs.Prelude.{◌≡◌, ℕ, ◌≤◌, List, length, Result, Ok, Err}
use Rattle.serde_json.specs.Written.{compact_text}
use Rattle.cert_form.specs.Certificates.{CertContent}
use Rattle.cert_form.specs.Limits.{most_certificate_bytes}
use Rattle.cert_form.specs.cert_write.Data.{certificate}
use Rattle.cert_verdict.specs.Verdicts as verdict
use Rattle.prove_core.specs.declared.found.Found.{Found}
use Rattle.prove_core.specs.declared.found.Found.TheVariants.{Certificate, Maybe}
use Rattle.prove_core.specs.declared.found.Reason.{Reason}
use Rattle.prove_core.specs.declared.found.Reason.TheVariants as reasons
use Rattle.prove_core.specs.declared.found.SearchFault.{SearchFault}
use Rattle.prove_core.specs.Reasons.{Aim, HasManyNodes, HasManyIds, HasLongPaths, IsTooLong, IsComponent}

-- the bytes are a certificate as one is written, in form 2
pub record IsWritten (names : List (List ℕ)) (bytes : List ℕ) : Type 0 where
  pub content : CertContent
  pub is : bytes ≡ compact_text (certificate names content)

-- the bytes say a certificate which, its nodes filled, is valid; so its graph, cuts and proof show that the program's runs end
abbrev pub SaysValid : Aim → List (List ℕ) → List ℕ → Type 0
SaysValid aim names bytes = verdict.SaysValid aim.program aim.typing aim.root names bytes

-- the bytes are a valid certificate in form 2, of at most 16 MiB
pub record IsCertificate (aim : Aim) (names : List (List ℕ)) (bytes : List ℕ) : Type 0 where
  pub short : length bytes ≤ most_certificate_bytes
  pub form : IsWritten names bytes
  pub says : SaysValid aim names bytes

-- a reason for giving no certificate holds, of a graph with no more nodes than the limit
abbrev pub HoldsReason : {P : Type 0} → Aim → List (List ℕ) → ℕ → Reason P → Type 0
HoldsReason aim names limit (reasons.Nodes nodes) = HasManyNodes aim limit nodes
HoldsReason aim names limit (reasons.Ids nodes) = HasManyIds aim limit nodes
HoldsReason aim names limit (reasons.Paths nodes) = HasLongPaths aim limit nodes
HoldsReason aim names limit (reasons.Bytes cert size) = IsTooLong aim limit names cert.graph cert.cuts cert.proof.steps size
HoldsReason aim names limit (reasons.Component cert left) = IsComponent aim limit cert.graph cert.cuts cert.proof.steps left

-- what a search answers: a certificate, or a reason that holds. Want of memory says nothing
abbrev pub SearchesOr : {P : Type 0} → Aim → List (List ℕ) → ℕ → Result (Found P) SearchFault → Type 0
SearchesOr aim names limit (Ok (Certificate bytes)) = IsCertificate aim names bytes
SearchesOr aim names limit (Ok (Maybe reason)) = HoldsReason aim names limit reason
SearchesOr aim names limit (Err fault) = Unit {0}
