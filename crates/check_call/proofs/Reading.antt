-- What is said of a certificate, by what is read of its bytes and what becomes of its nodes.
use Rattle.std.proofs.Common.{◌≡◌, ℕ, List, Result, Ok, Err, inl, inr, subst}
use Rattle.abs_cells.specs.AbstractStates.{AbstractState}
use Rattle.class_program.specs.Programs.{Program}
use Rattle.frame_types.specs.Tables.{CodeTypes}
use Rattle.input_desc.specs.declared.desc.Desc.{Desc}
use Rattle.input_desc.specs.Initial.{initial_of}
use Rattle.input_steps.specs.declared.refused.Refused.{Refused}
use Rattle.input_steps.specs.declared.refused.Refused.TheVariants.{At, Memory}
use Rattle.input_steps.specs.declared.refused.Place.{Place}
use Rattle.input_steps.specs.declared.refused.Fault.{Fault}
use Rattle.desc_steps.specs.Answers.{AnswersAs}
use Rattle.desc_steps.specs.Names.{names_of}
use Rattle.term_graph.specs.Graphs.{GraphNode}
use Rattle.graph_fill.specs.ChildrenOfStates.{IsFilledGraph}
use Rattle.cert_form.specs.declared.fault.CertFault.{CertFault}
use Rattle.cert_form.specs.declared.fault.CertFault.TheVariants as certs
use Rattle.cert_form.specs.Certificates.{CertContent, cert_of, AnswersText}
use Rattle.cert_check.specs.declared.refusal.Cause.{Cause}
use Rattle.cert_check.specs.Valid.{Case, IsValid, IsFirstFault}
use Rattle.cert_check.specs.Parts.{case_of}
use Rattle.check_call.specs.declared.outcome.Outcome.{Outcome}
use Rattle.check_call.specs.Answers.{IsCertText, OfText, SayingValid, OfCase, OfContent, OfCert}
use Rattle.check_call.specs.Causes.{cause_text}
use Rattle.check_call.specs.Lines.{refused_at}
use Rattle.check_call.specs.Answers.{IsSaidOfText}

abbrev Answer : Type 0
Answer = Result Outcome Refused

-- ---- the bytes

module _ (Says : CertContent → Answer → Type 0) (p : Program) (cert : List ℕ) where
  -- where what they say is never refused at a place, what is said of it is said of them
  pub reading_goes : ((content : CertContent) (place : Place) (fault : Fault) → Says content (Err (At place fault)) → ⊥)
      → (names : List (List ℕ)) (content : CertContent) (result : Answer) → names ≡ names_of p.world
      → AnswersText (cert_of names) cert (Ok content) → Says content result → OfText Says p cert result
  reading_goes never names content result e i h = go result h
    where
      is : IsCertText p cert content
      is = subst (λ (ns : List (List ℕ)). AnswersText (cert_of ns) cert (Ok content)) e i

      go : (result : Answer) → Says content result → OfText Says p cert result
      go (Ok outcome) h = inr (content, (is, h))
      go (Err (At place fault)) h = never content place fault h
      go (Err Memory) h = tt

  -- and so is what is said of bytes that say none
  pub reading_refused : (names : List (List ℕ)) (fault : CertFault) (result : Answer) → names ≡ names_of p.world
      → AnswersText (cert_of names) cert (Err fault) → IsSaidOfText fault result → OfText Says p cert result
  reading_refused names fault result e i s = go fault result
      (subst (λ (ns : List (List ℕ)). AnswersText (cert_of ns) cert (Err fault)) e i) s
    where
      go : (fault : CertFault) (result : Answer) → AnswersText (cert_of (names_of p.world)) cert (Err fault)
          → IsSaidOfText fault result → OfText Says p cert result
      go (certs.Json f) (Ok outcome) h s = inl (certs.Json f, (h, s))
      go (certs.Json f) (Err (At place fault)) h s = absurd s
      go (certs.Json f) (Err Memory) h s = tt
      go (certs.Limit at) (Ok outcome) h s = inl (certs.Limit at, (h, s))
      go (certs.Limit at) (Err (At place fault)) h s = absurd s
      go (certs.Limit at) (Err Memory) h s = tt
      go certs.Memory (Ok outcome) h s = absurd (cc)
      go certs.Memory (Err (At place fault)) h s = absurd (cc)
      go certs.Memory (Err Memory) h s = tt

-- ---- the nodes

module _ (Says : SayingValid) where
  -- what is said of a valid case
  pub case_goes : (case : Case) (valid : IsValid case) (outcome : Outcome) → Says case valid outcome → OfCase Says case (Ok outcome)
  case_goes case valid outcome h = inl (valid, h)

  -- what is said of one whose item fails
  pub case_refused : (case : Case) (item : ℕ) (cause : Cause) (result : Answer) → IsFirstFault case item cause
      → AnswersAs (refused_at item (cause_text cause)) result → OfCase Says case result
  case_refused case item cause (Ok outcome) fails said = inr (item, (cause, (fails, said)))
  case_refused case item cause (Err (At place fault)) fails said = said
  case_refused case item cause (Err Memory) fails said = tt

  module _ (p : Program) (typing : ℕ → CodeTypes) where
    -- what is said of the filled graph's case is said of what the certificate says
    pub content_goes : (root : AbstractState) (content : CertContent) (nodes : List GraphNode) (result : Answer)
        → IsFilledGraph p typing content.parts nodes → OfCase Says (case_of p typing root nodes content.cuts content.proof) result
        → OfContent Says p typing root content result
    content_goes root content nodes (Ok outcome) filled h = (nodes, (filled, h))
    content_goes root content nodes (Err (At place fault)) filled h = h
    content_goes root content nodes (Err Memory) filled h = tt

    module _ (cert : List ℕ) (desc : Desc) where
      -- and of the bytes
      pub cert_goes : (names : List (List ℕ)) (root : AbstractState) (content : CertContent) (result : Answer) → names ≡ names_of p.world
          → root ≡ initial_of p desc → AnswersText (cert_of names) cert (Ok content) → OfContent Says p typing root content result
          → OfCert Says cert p typing desc result
      cert_goes names root content result e is said h =
          reading_goes (OfContent Says p typing (initial_of p desc)) p cert (λ content place fault h. h) names content result e said
          (subst (λ (state : AbstractState). OfContent Says p typing state content result) is h)

      pub cert_refused : (names : List (List ℕ)) (fault : CertFault) (result : Answer) → names ≡ names_of p.world
          → AnswersText (cert_of names) cert (Err fault) → IsSaidOfText fault result → OfCert Says cert p typing desc result
      cert_refused = reading_refused (OfContent Says p typing (initial_of p desc)) p cert
