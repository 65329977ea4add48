-- Bytes say one thing; so a certificate that they say, and that is valid once it is filled, is accepted.
use Rattle.std.proofs.Common.{◌≡◌, ◌∙◌, ℕ, List, Result, Ok, Err, sym, ap}
use Rattle.list_views.proofs.Options.{one_answer}
use Rattle.serde_json.specs.Data.{Data}
use Rattle.json_view.specs.Located.{root_of}
use Rattle.json_view.specs.declared.fault.JsonFault.TheVariants as json
use Rattle.cert_form.specs.Answers.{Reader}
use Rattle.cert_form.specs.declared.fault.CertFault.{CertFault}
use Rattle.cert_form.specs.declared.fault.CertFault.TheVariants as certs
use Rattle.cert_form.specs.Certificates.{CertContent, cert_of, SaysOf}
use Rattle.cert_check.specs.declared.refusal.Cause.{Cause}
use Rattle.cert_check.specs.declared.refusal.Refusal.{Refusal}
use Rattle.cert_check.specs.declared.refusal.Refusal.TheVariants as refusals
use Rattle.cert_check.specs.Valid.{Case, IsValid, IsFirstFault}
use Rattle.cert_verdict.specs.Verdicts.{SaysNone}
use Rattle.cert_verdict.proofs.VerdictLaw.{verdicts_one}

said_one : {A : Type 0} (reader : Reader A) (bytes : List ℕ) (a b : Result A CertFault) → SaysOf reader bytes a
    → SaysOf reader bytes b → a ≡ b
said_one reader bytes a b h k =
    let same : h.0 ≡ k.0 = one_answer _ h.0 k.0 h.1.0.1 k.1.0.1 in
    sym h.1.1 ∙ ap (λ (v : Data). reader (root_of v)) same ∙ k.1.1

module _ (names : List (List ℕ)) (bytes : List ℕ) (content : CertContent) (says : SaysOf (cert_of names) bytes (Ok content)) where
  never_err : (fault : CertFault) → SaysOf (cert_of names) bytes (Err fault) → ⊥
  never_err fault other =
      let e : Ok content ≡ Err fault = said_one (cert_of names) bytes (Ok content) (Err fault) says other in
      cc

  -- they say no other certificate
  pub same_content : (other : CertContent) → SaysOf (cert_of names) bytes (Ok other) → other ≡ content
  same_content other said =
      let e : Ok other ≡ Ok content = said_one (cert_of names) bytes (Ok other) (Ok content) said says in
      cc

  -- and have no fault
  pub never_none : (fault : CertFault) → SaysNone names bytes fault → ⊥
  never_none (certs.Json json.NotJson) h = h says.0 says.1.0
  never_none (certs.Json json.Memory) h = h
  never_none (certs.Json (json.WrongKind place)) h = never_err (certs.Json (json.WrongKind place)) h
  never_none (certs.Json (json.MissingField place)) h = never_err (certs.Json (json.MissingField place)) h
  never_none (certs.Json (json.UnknownField place)) h = never_err (certs.Json (json.UnknownField place)) h
  never_none (certs.Json (json.OutOfRange place)) h = never_err (certs.Json (json.OutOfRange place)) h
  never_none (certs.Limit place) h = never_err (certs.Limit place) h
  never_none certs.Memory h = h

pub valid_or_fault : (case : Case) (item : ℕ) (cause : Cause) → IsValid case → IsFirstFault case item cause → ⊥
valid_or_fault case item cause h k =
    let e : Ok tt ≡ Err (refusals.Item item cause) = verdicts_one case (Ok tt) (Err (refusals.Item item cause)) h k valid_known fails_known in
    cc
  where
    valid_known : ◌≡◌ {A = Result (Unit {0}) Refusal} (Ok tt) (Err refusals.Memory) → ⊥
    valid_known e = cc

    fails_known : ◌≡◌ {A = Result (Unit {0}) Refusal} (Err (refusals.Item item cause)) (Err refusals.Memory) → ⊥
    fails_known e = cc
