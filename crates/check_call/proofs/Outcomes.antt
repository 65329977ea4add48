-- What comes out of a certificate's bytes: what is said of a valid one, or the line of a refused item.
use Rattle.std.proofs.Common.{◌≡◌, ◌⊎◌, ℕ, List, Ok, inl, inr, ap, ◌∙◌}
use Rattle.class_program.specs.Programs.{Program}
use Rattle.frame_types.specs.Tables.{CodeTypes}
use Rattle.input_desc.specs.declared.desc.Desc.{Desc}
use Rattle.input_desc.specs.Initial.{initial_of}
use Rattle.cert_form.specs.Faults.{fault_text}
use Rattle.cert_check.specs.Valid.{Case, IsValid}
use Rattle.cert_check.specs.Parts.{case_of}
use Rattle.desc_steps.proofs.Answering.{files_on}
use Rattle.check_call.specs.declared.outcome.Outcome.{Outcome}
use Rattle.check_call.specs.Answers.{SayingValid, OfCase, OfCert, OfBytes}
use Rattle.check_call.specs.Causes.{cause_text}
use Rattle.check_call.specs.Lines.{refused_at}
use Rattle.check_call.proofs.Accepting.{reached}

-- it is the refusal of an item
abbrev pub IsRefusal : Outcome → Type 0
IsRefusal outcome = (item : ℕ) × ((cause : List ℕ) × (outcome ≡ refused_at item cause))

module _ (Says : SayingValid) (Is : Outcome → Type 0) (outcome : Outcome)
    (said : (case : Case) (valid : IsValid case) → Says case valid outcome → Is outcome) where
  of_case : (case : Case) → OfCase Says case (Ok outcome) → Is outcome ⊎ IsRefusal outcome
  of_case case (inl h) = inl (said case h.0 h.1)
  of_case case (inr h) = inr (h.0, (cause_text h.1.0, h.1.1.1))

  pub cert_outcome : (cert : List ℕ) (p : Program) (typing : ℕ → CodeTypes) (desc : Desc) → OfCert Says cert p typing desc (Ok outcome)
      → Is outcome ⊎ IsRefusal outcome
  cert_outcome cert p typing desc (inl h) = inr (0, (fault_text h.0, h.1.1))
  cert_outcome cert p typing desc (inr h) =
      of_case (case_of p typing (initial_of p desc) h.1.1.0 h.0.cuts h.0.proof) h.1.1.1.1

  -- what comes out of all of the bytes
  pub bytes_outcome : (cert desc : List ℕ) (files : List (List ℕ)) → OfBytes Says cert desc files (Ok outcome)
      → Is outcome ⊎ IsRefusal outcome
  bytes_outcome cert desc files a =
      let r = reached (OfCert Says cert) desc files outcome a in
      cert_outcome cert r.program r.typing r.described r.says

-- a refusal has another status
pub refusal_status : (outcome : Outcome) → IsRefusal outcome → outcome.status ≡ 2
refusal_status outcome h = ap (λ (o : Outcome). o.status) h.1.1

-- ---- from one command to another

module _ (Says Tells : SayingValid) (x y : Outcome)
    (on : (case : Case) (valid : IsValid case) → Says case valid x → OfCase Tells case (Ok y))
    (refused : IsRefusal x → y ≡ x) where
  case_turned : (case : Case) → OfCase Says case (Ok x) → OfCase Tells case (Ok y)
  case_turned case (inl h) = on case h.0 h.1
  case_turned case (inr h) = inr (h.0, (h.1.0, (h.1.1.0, refused (h.0, (cause_text h.1.0, h.1.1.1)) ∙ h.1.1.1)))

  cert_turned : (cert : List ℕ) (p : Program) (typing : ℕ → CodeTypes) (desc : Desc) → OfCert Says cert p typing desc (Ok x)
      → OfCert Tells cert p typing desc (Ok y)
  cert_turned cert p typing desc (inl h) = inl (h.0, (h.1.0, refused (0, (fault_text h.0, h.1.1)) ∙ h.1.1))
  cert_turned cert p typing desc (inr h) = inr (
    h.0,
    (
      h.1.0,
      (
        h.1.1.0,
        (
          h.1.1.1.0,
          case_turned (case_of p typing (initial_of p desc) h.1.1.0 h.0.cuts h.0.proof) h.1.1.1.1,
        ),
      ),
    ),
  )

  -- what one command says of bytes becomes what another one says, where it does so of valid cases
  pub bytes_turned : (cert desc : List ℕ) (files : List (List ℕ)) → OfBytes Says cert desc files (Ok x)
      → OfBytes Tells cert desc files (Ok y)
  bytes_turned cert desc files =
      files_on (OfCert Says cert) (OfCert Tells cert) desc files x (Ok y) (cert_turned cert)
