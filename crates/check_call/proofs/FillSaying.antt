-- What is said of a certificate.
use Rattle.std.proofs.Common.{◌≡◌, ℕ, false, List, [], ◌∷◌, ◌++◌, Result, Ok, Err, ap}
use Rattle.serde_json.specs.Written.{compact_text}
use Rattle.class_program.specs.Programs.{Program}
use Rattle.frame_types.specs.Tables.{CodeTypes}
use Rattle.input_steps.specs.declared.refused.Refused.{Refused}
use Rattle.desc_steps.specs.Names.{names_of}
use Rattle.term_graph.specs.Graphs.{GraphNode}
use Rattle.graph_fill.specs.ChildrenOfStates.{IsFilledGraph}
use Rattle.cert_form.specs.declared.fault.CertFault.{CertFault}
use Rattle.cert_form.specs.Certificates.{CertContent, cert_of, AnswersText}
use Rattle.cert_form.specs.cert_write.Data.{content_in, certificate_in}
use Rattle.descent.specs.declared.proof.ProofStep.{ProofStep}
use Rattle.check_call.specs.declared.outcome.Outcome.{Outcome}
use Rattle.check_call.specs.Answers.{IsSaidOfText}
use Rattle.check_call.specs.FillAnswers.{filled, AnswersContent, AnswersCert}
use Rattle.check_call.specs.FillTexts.{filled_text}
use Rattle.check_call.proofs.Reading.{reading_goes, reading_refused}

abbrev Answer : Type 0
Answer = Result Outcome Refused

-- ---- the text

pub text_is : (names : List (List ℕ)) (nodes : List GraphNode) (cuts : List ℕ) (proof : List ProofStep) (text : List ℕ)
    → text ≡ compact_text (certificate_in false names (content_in false nodes cuts proof))
    → text ++ 10 ∷ [] ≡ filled_text names nodes cuts proof
text_is names nodes cuts proof text is = ap (λ (bytes : List ℕ). bytes ++ 10 ∷ []) is

-- ---- what a certificate says

pub filled_goes : (p : Program) (typing : ℕ → CodeTypes) (content : CertContent) (nodes : List GraphNode) (outcome : Outcome)
    → IsFilledGraph p typing content.parts nodes → outcome ≡ filled p nodes content → AnswersContent p typing content (Ok outcome)
filled_goes p typing content nodes outcome f e = (nodes, (f, e))

-- ---- the bytes

module _ (cert : List ℕ) (p : Program) (typing : ℕ → CodeTypes) where
  pub text_goes : (names : List (List ℕ)) (content : CertContent) (result : Answer) → names ≡ names_of p.world
      → AnswersText (cert_of names) cert (Ok content) → AnswersContent p typing content result → AnswersCert cert p typing result
  text_goes = reading_goes (AnswersContent p typing) p cert (λ content place fault h. h)

  pub text_refused : (names : List (List ℕ)) (fault : CertFault) (result : Answer) → names ≡ names_of p.world
      → AnswersText (cert_of names) cert (Err fault) → IsSaidOfText fault result → AnswersCert cert p typing result
  text_refused = reading_refused (AnswersContent p typing) p cert
