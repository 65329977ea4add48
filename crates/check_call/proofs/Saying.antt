-- What is said of a certificate.
use Rattle.std.proofs.Common.{◌≡◌, ℕ, List, Result, Ok, Err, inl, inr, refl, ap, subst, arith}
use Rattle.abs_cells.specs.AbstractStates.{AbstractState}
use Rattle.class_program.specs.Programs.{Program, IsClosed}
use Rattle.frame_types.specs.Tables.{CodeTypes}
use Rattle.code_verify.specs.Typings.{IsTypingOf}
use Rattle.class_program.specs.Widths.{HasWidths}
use Rattle.input_desc.specs.declared.desc.Desc.{Desc}
use Rattle.input_desc.specs.Descs.{IsOwnDesc}
use Rattle.input_desc.specs.Initial.{initial_of}
use Rattle.input_steps.specs.declared.refused.Refused.{Refused}
use Rattle.input_steps.specs.declared.refused.Refused.TheVariants.{At, Memory}
use Rattle.desc_steps.specs.Answers.{AnswersAs}
use Rattle.desc_steps.specs.Names.{names_of}
use Rattle.cert_form.specs.declared.fault.CertFault.{CertFault}
use Rattle.cert_form.specs.declared.fault.CertFault.TheVariants as certs
use Rattle.cert_form.specs.Faults.{fault_text}
use Rattle.cert_check.specs.Laws.{CertifiedRunsEnd}
use Rattle.cert_verdict.specs.declared.verdict.CertVerdict.{CertVerdict}
use Rattle.cert_verdict.specs.declared.verdict.CertVerdict.TheVariants.{Accepted, Refused as RefusedAt, NoText}
use Rattle.cert_verdict.specs.Verdicts.{SaysValid, SaysNone, Judges}
use Rattle.check_call.specs.declared.outcome.Outcome.{Outcome}
use Rattle.check_call.specs.Answers.{AnswersCert}
use Rattle.check_call.specs.Headline.{Accepts, EndsIfAccepted}
use Rattle.check_call.specs.Lines.{refused_at}
use Rattle.check_call.specs.inner.Said.{IsSaid}
use Rattle.check_call.specs.Answers.{IsSaidOfText}

abbrev Answer : Type 0
Answer = Result Outcome Refused

-- ---- words

pub text_said : (fault : CertFault) (cause : List ℕ) (result : Answer) → (fault ≡ certs.Memory → ⊥) → cause ≡ fault_text fault
    → AnswersAs (refused_at 0 cause) result → IsSaidOfText fault result
text_said (certs.Json fault) cause result other is s = subst (λ (text : List ℕ). AnswersAs (refused_at 0 text) result) is s
text_said (certs.Limit place) cause result other is s = subst (λ (text : List ℕ). AnswersAs (refused_at 0 text) result) is s
text_said certs.Memory cause result other is s = absurd (other refl)

-- a certificate that is accepted is valid
accepts_alone : (verdict : CertVerdict) (result : Answer) → IsSaid verdict result → Accepts result → verdict ≡ Accepted
accepts_alone Accepted result s a = refl
accepts_alone (RefusedAt item cause) (Ok outcome) s a = absurd (omega (arith, ap (λ (o : Outcome). o.status) s, a))
accepts_alone (RefusedAt item cause) (Err refused) s a = absurd a
accepts_alone (NoText (certs.Json fault)) (Ok outcome) s a = absurd (omega (arith, ap (λ (o : Outcome). o.status) s, a))
accepts_alone (NoText (certs.Limit place)) (Ok outcome) s a = absurd (omega (arith, ap (λ (o : Outcome). o.status) s, a))
accepts_alone (NoText certs.Memory) (Ok outcome) s a = absurd (cc)
accepts_alone (NoText fault) (Err refused) s a = absurd a

-- ---- the answer

module _ (cert : List ℕ) (p : Program) (typing : ℕ → CodeTypes) (desc : Desc) where
  text_answers : (fault : CertFault) (result : Answer) → SaysNone (names_of p.world) cert fault → IsSaidOfText fault result
      → AnswersCert cert p typing desc result
  text_answers (certs.Json f) (Ok outcome) h s = inl (certs.Json f, (h, s))
  text_answers (certs.Limit at) (Ok outcome) h s = inl (certs.Limit at, (h, s))
  text_answers certs.Memory (Ok outcome) h s = absurd h
  text_answers (certs.Json f) (Err (At place fault)) h s = absurd s
  text_answers (certs.Limit at) (Err (At place fault)) h s = absurd s
  text_answers certs.Memory (Err (At place fault)) h s = absurd h
  text_answers fault (Err Memory) h s = tt

  answers : (verdict : CertVerdict) (result : Answer)
      → Judges p typing (initial_of p desc) (names_of p.world) cert verdict → IsSaid verdict result
      → AnswersCert cert p typing desc result
  answers Accepted (Ok outcome) h s = inr (h.content, (h.says, (h.nodes, (h.filled, inl (h.valid, s)))))
  answers (RefusedAt item cause) (Ok outcome) h s = inr
      (h.content, (h.says, (h.nodes, (h.filled, inr (item, (cause, (h.fails, s)))))))
  answers Accepted (Err (At place fault)) h s = absurd s
  answers (RefusedAt item cause) (Err (At place fault)) h s = absurd s
  answers (NoText fault) result h s = text_answers fault result h s
  answers Accepted (Err Memory) h s = tt
  answers (RefusedAt item cause) (Err Memory) h s = tt

  module _ (names : List (List ℕ)) (root : AbstractState) (verdict : CertVerdict) (result : Answer)
      (names_are : names ≡ names_of p.world) (root_is : root ≡ initial_of p desc)
      (judges : Judges p typing root names cert verdict) (said : IsSaid verdict result) where
    own : Judges p typing (initial_of p desc) (names_of p.world) cert verdict
    own = subst (λ (s : AbstractState). Judges p typing s (names_of p.world) cert verdict) root_is
        (subst (λ (ns : List (List ℕ)). Judges p typing root ns cert verdict) names_are judges)

    pub said_answers : AnswersCert cert p typing desc result
    said_answers = answers verdict result own said

    pub said_ends : CertifiedRunsEnd → IsClosed p → HasWidths p → IsTypingOf p typing → IsOwnDesc p desc → EndsIfAccepted p desc result
    said_ends law closed widths typing_is described accepts state fits =
        let valid : SaysValid p typing (initial_of p desc) (names_of p.world) cert = subst
        (λ (v : CertVerdict). Judges p typing (initial_of p desc) (names_of p.world) cert v)
        (accepts_alone verdict result said accepts) own in
        law p typing desc valid.nodes valid.content.cuts closed widths typing_is described valid.certified state fits
