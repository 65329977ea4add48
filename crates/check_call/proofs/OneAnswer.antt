-- A certificate, a description and class files have one answer.
use Rattle.std.proofs.Common.{◌≡◌, ◌∙◌, ◌⊎◌, ℕ, List, Result, Ok}
use Rattle.std.proofs.Common.{Err, inl, inr, refl, sym, ap, subst}
use Rattle.std.specs.Prelude.{◌≢◌}
use Rattle.list_views.proofs.Options.{one_answer}
use Rattle.serde_json.specs.Data.{Data}
use Rattle.json_view.specs.Answers.{Reads}
use Rattle.json_view.specs.Located.{root_of}
use Rattle.json_view.specs.declared.fault.JsonFault.TheVariants as json
use Rattle.abs_cells.specs.AbstractStates.{AbstractState}
use Rattle.class_program.specs.Programs.{Program}
use Rattle.frame_types.specs.Tables.{CodeTypes}
use Rattle.input_desc.specs.Initial.{initial_of}
use Rattle.input_steps.specs.declared.refused.Refused.{Refused}
use Rattle.input_steps.specs.declared.refused.Refused.TheVariants.{At, Memory}
use Rattle.input_steps.proofs.OneAnswer.{IsOne, ok_one, err_one, ok_err}
use Rattle.desc_steps.specs.Names.{names_of}
use Rattle.desc_steps.proofs.OneAnswer.{files_one}
use Rattle.term_graph.specs.Graphs.{GraphNode}
use Rattle.graph_fill.proofs.Once.{filled_once}
use Rattle.cert_form.specs.Answers.{Reader}
use Rattle.cert_form.specs.declared.fault.CertFault.{CertFault}
use Rattle.cert_form.specs.declared.fault.CertFault.TheVariants as certs
use Rattle.cert_form.specs.Certificates.{CertContent, cert_of, SaysOf}
use Rattle.cert_form.specs.Faults.{fault_text}
use Rattle.cert_check.specs.declared.refusal.Cause.{Cause}
use Rattle.cert_check.specs.declared.refusal.Refusal.{Refusal}
use Rattle.cert_check.specs.declared.refusal.Refusal.TheVariants as refusals
use Rattle.cert_check.specs.Valid.{Case, IsValid, IsFirstFault}
use Rattle.cert_verdict.proofs.VerdictLaw.{verdicts_one}
use Rattle.cert_check.specs.Parts.{case_of}
use Rattle.check_call.specs.declared.outcome.Outcome.{Outcome}
use Rattle.check_call.specs.Answers.{IsCertText, IsCertFault, OfText, SayingValid, OfCase, OfContent, OfCert, OfBytes, SaysAccepted}
use Rattle.check_call.specs.Causes.{cause_text}
use Rattle.check_call.specs.Laws.{AnswersAreOne}
use Rattle.check_call.specs.Lines.{refused_at}

-- ---- what the bytes say

said_one : {A : Type 0} (reader : Reader A) (bytes : List ℕ) (a b : Result A CertFault) → SaysOf reader bytes a
    → SaysOf reader bytes b → a ≡ b
said_one reader bytes a b h k =
    let same : h.0 ≡ k.0 = one_answer _ h.0 k.0 h.1.0.1 k.1.0.1 in
    sym h.1.1 ∙ ap (λ (v : Data). reader (root_of v)) same ∙ k.1.1

module _ (p : Program) (cert : List ℕ) where
  abbrev Said : Result CertContent CertFault → Type 0
  Said = SaysOf (cert_of (names_of p.world)) cert

  said_same : (a b : Result CertContent CertFault) → Said a → Said b → a ≡ b
  said_same = said_one (cert_of (names_of p.world)) cert

  -- a fault that the reader says, or no value is read
  abbrev Faulty : CertFault → Type 0
  Faulty fault = Said (Err fault) ⊎ ((fault ≡ certs.Json json.NotJson) × ((value : Data) → Reads cert value → ⊥))

  faulty : (fault : CertFault) → IsCertFault p cert fault → Faulty fault
  faulty (certs.Json json.NotJson) h = inr (refl, h)
  faulty (certs.Json json.Memory) h = absurd h
  faulty (certs.Json (json.WrongKind place)) h = inl h
  faulty (certs.Json (json.MissingField place)) h = inl h
  faulty (certs.Json (json.UnknownField place)) h = inl h
  faulty (certs.Json (json.OutOfRange place)) h = inl h
  faulty (certs.Limit place) h = inl h
  faulty certs.Memory h = absurd h

  both_faults : (f g : CertFault) → Faulty f → Faulty g → f ≡ g
  both_faults f g (inl h) (inl k) = err_one (Err f) f g refl (said_same (Err f) (Err g) h k)
  both_faults f g (inl h) (inr k) = absurd (k.1 h.0 h.1.0)
  both_faults f g (inr h) (inl k) = absurd (h.1 k.0 k.1.0)
  both_faults f g (inr h) (inr k) = h.0 ∙ sym k.0

  fault_one : (f g : CertFault) → IsCertFault p cert f → IsCertFault p cert g → f ≡ g
  fault_one f g h k = both_faults f g (faulty f h) (faulty g k)

  content_or_fault : (content : CertContent) (fault : CertFault) → IsCertText p cert content → Faulty fault → ⊥
  content_or_fault content fault h (inl k) = ok_err (Ok content) content fault refl (said_same (Ok content) (Err fault) h k)
  content_or_fault content fault h (inr k) = k.1 h.0 h.1.0

  content_one : (a b : CertContent) → IsCertText p cert a → IsCertText p cert b → a ≡ b
  content_one a b h k = ok_one (Ok a) a b refl (said_same (Ok a) (Ok b) h k)

-- ---- a check

-- not want of memory
abbrev IsKnown : Result Outcome Refused → Type 0
IsKnown r = r ≢ Err Memory

abbrev Verdict : Type 0
Verdict = Result (Unit {0}) Refusal

abbrev valid : Verdict
valid = Ok tt

abbrev fails_at : ℕ → Cause → Verdict
fails_at item cause = Err (refusals.Item item cause)

valid_known : (r : Verdict) → r ≡ valid → r ≡ Err refusals.Memory → ⊥
valid_known r e f = let k : valid ≡ Err refusals.Memory = sym e ∙ f in cc

fails_known : (item : ℕ) (cause : Cause) (r : Verdict) → r ≡ fails_at item cause → r ≡ Err refusals.Memory → ⊥
fails_known item cause r e f = let k : fails_at item cause ≡ Err refusals.Memory = sym e ∙ f in cc

module _ (case : Case) where
  valid_or_fault : (item : ℕ) (cause : Cause) → IsValid case → IsFirstFault case item cause → ⊥
  valid_or_fault item cause h k =
      let e : valid ≡ fails_at item cause = verdicts_one case valid (fails_at item cause) h k (valid_known valid refl)
      (fails_known item cause (fails_at item cause) refl) in
      cc

  fault_same : (item other : ℕ) (cause next : Cause) → IsFirstFault case item cause → IsFirstFault case other next
      → refused_at item (cause_text cause) ≡ refused_at other (cause_text next)
  fault_same item other cause next h k =
      let e : fails_at item cause ≡ fails_at other next = verdicts_one case (fails_at item cause) (fails_at other next) h k
      (fails_known item cause (fails_at item cause) refl) (fails_known other next (fails_at other next) refl) in
      let items : item ≡ other = cc in
      let causes : cause ≡ next = cc in
      λ i. refused_at (items i) (cause_text (causes i))

-- ---- what a command says of a valid certificate

module _ (Says : SayingValid)
    (one : (case : Case) (v w : IsValid case) (x y : Outcome) → Says case v x → Says case w y → x ≡ y) where
  case_one : (case : Case) → IsOne (OfCase Says case)
  case_one case (Ok x) (Ok y) (inl h) (inl k) nr ns = let e : x ≡ y = one case h.0 k.0 x y h.1 k.1 in λ i. Ok (e i)
  case_one case (Ok x) (Ok y) (inl h) (inr k) nr ns = absurd (valid_or_fault case k.0 k.1.0 h.0 k.1.1.0)
  case_one case (Ok x) (Ok y) (inr h) (inl k) nr ns = absurd (valid_or_fault case h.0 h.1.0 k.0 h.1.1.0)
  case_one case (Ok x) (Ok y) (inr h) (inr k) nr ns = let e : x ≡ y = h.1.1.1
      ∙ (fault_same case h.0 k.0 h.1.0 k.1.0 h.1.1.0 k.1.1.0 ∙ sym k.1.1.1) in λ i. Ok (e i)
  case_one case (Ok x) (Err (At place fault)) h k nr ns = absurd k
  case_one case (Ok x) (Err Memory) h k nr ns = absurd (ns refl)
  case_one case (Err (At place fault)) s h k nr ns = absurd h
  case_one case (Err Memory) s h k nr ns = absurd (nr refl)

  module _ (p : Program) (typing : ℕ → CodeTypes) (root : AbstractState) where
    told_one : (content : CertContent) → IsOne (OfContent Says p typing root content)
    told_one content (Ok x) (Ok y) h k nr ns =
        let same : h.0 ≡ k.0 = filled_once p typing content.parts h.0 k.0 h.1.0 k.1.0 in
        case_one (case_of p typing root k.0 content.cuts content.proof) (Ok x) (Ok y)
        (subst (λ (nodes : List GraphNode). OfCase Says (case_of p typing root nodes content.cuts content.proof) (Ok x)) same h.1.1)
        k.1.1 nr ns
    told_one content (Ok x) (Err (At place fault)) h k nr ns = absurd k
    told_one content (Ok x) (Err Memory) h k nr ns = absurd (ns refl)
    told_one content (Err (At place fault)) s h k nr ns = absurd h
    told_one content (Err Memory) s h k nr ns = absurd (nr refl)

-- ---- the bytes

module _ (Says : CertContent → Result Outcome Refused → Type 0) (one : (content : CertContent) → IsOne (Says content)) (p : Program)
    (cert : List ℕ) where
  both_told : (a b : CertContent) (r s : Result Outcome Refused) → IsCertText p cert a → IsCertText p cert b
      → Says a r → Says b s → IsKnown r → IsKnown s → r ≡ s
  both_told a b r s g h n m nr ns = one b r s (subst (λ (c : CertContent). Says c r) (content_one p cert a b g h) n) m nr ns

  pub text_one : IsOne (OfText Says p cert)
  text_one (Ok x) (Ok y) (inl h) (inl k) nr ns =
      let line = ap (λ (fault : CertFault). refused_at 0 (fault_text fault)) (fault_one p cert h.0 k.0 h.1.0 k.1.0) in
      let e : x ≡ y = h.1.1 ∙ (line ∙ sym k.1.1) in
      λ i. Ok (e i)
  text_one (Ok x) (Ok y) (inl h) (inr k) nr ns = absurd (content_or_fault p cert k.0 h.0 k.1.0 (faulty p cert h.0 h.1.0))
  text_one (Ok x) (Ok y) (inr h) (inl k) nr ns = absurd (content_or_fault p cert h.0 k.0 h.1.0 (faulty p cert k.0 k.1.0))
  text_one (Ok x) (Ok y) (inr h) (inr k) nr ns = both_told h.0 k.0 (Ok x) (Ok y) h.1.0 k.1.0 h.1.1 k.1.1 nr ns
  text_one (Ok x) (Err (At place fault)) h k nr ns = absurd k
  text_one (Ok x) (Err Memory) h k nr ns = absurd (ns refl)
  text_one (Err (At place fault)) s h k nr ns = absurd h
  text_one (Err Memory) s h k nr ns = absurd (nr refl)

-- ---- the whole

-- a command has one answer, where it says one thing of a valid certificate
pub bytes_one : (Says : SayingValid)
    → ((case : Case) (v w : IsValid case) (x y : Outcome) → Says case v x → Says case w y → x ≡ y)
    → (cert desc : List ℕ) (files : List (List ℕ)) → IsOne (OfBytes Says cert desc files)
bytes_one Says one cert desc files =
    files_one (OfCert Says cert)
    (λ p typing described. text_one (OfContent Says p typing (initial_of p described))
    (told_one Says one p typing (initial_of p described)) p cert) desc files

pub answers_one : AnswersAreOne
answers_one = bytes_one SaysAccepted (λ case v w x y h k. h ∙ sym k)
