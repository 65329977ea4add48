-- What is said of a certificate.
use Rattle.std.proofs.Common.{◌≡◌, ℕ, List, Result, Ok, Err, inl, inr, refl, sym, ap, subst, arith}
use Rattle.class_program.specs.Programs.{Program}
use Rattle.frame_types.specs.Tables.{CodeTypes}
use Rattle.input_desc.specs.declared.desc.Desc.{Desc}
use Rattle.input_desc.specs.declared.states.StateInput.{StateInput}
use Rattle.input_steps.specs.declared.refused.Refused.{Refused}
use Rattle.input_steps.specs.declared.refused.Refused.TheVariants.{At, Memory}
use Rattle.cert_form.specs.declared.fault.CertFault.{CertFault}
use Rattle.cert_form.specs.declared.fault.CertFault.TheVariants as certs
use Rattle.cert_form.specs.Certificates.{CertContent, cert_of, AnswersText}
use Rattle.graph_fill.specs.ChildrenOfStates.{IsFilledGraph}
use Rattle.term_graph.specs.Graphs.{GraphNode}
use Rattle.desc_steps.specs.Answers.{AnswersAs}
use Rattle.desc_steps.specs.Names.{names_of}
use Rattle.loop_check.specs.declared.fault.LoopFault.{LoopFault}
use Rattle.loop_check.specs.declared.fault.LoopFault.TheVariants as faults
use Rattle.loop_check.specs.Fitting.{ChecksLoop}
use Rattle.loop_check.specs.Laws.{AllGoOn}
use Rattle.check_call.specs.declared.outcome.Outcome.{Outcome}
use Rattle.check_call.specs.Answers.{IsSaidOfText}
use Rattle.check_call.proofs.Reading.{reading_goes, reading_refused}
use Rattle.cert_calls.specs.loop_call.Answers.{OfNodes, OfContent}
use Rattle.cert_calls.specs.loop_call.Lines.{never_ends, refused_for}
use Rattle.cert_calls.specs.loop_call.inner.Words.{IsSaidOf, GoOnIfDone, Shows}

abbrev Answer : Type 0
Answer = Result Outcome Refused

-- ---- nodes

module _ (p : Program) (typing : ℕ → CodeTypes) (desc : Desc) (input : StateInput) (nodes : List GraphNode) where
  pub shown : (result : Answer) → ChecksLoop p typing desc nodes input (Ok tt) → AnswersAs never_ends result
      → OfNodes p typing desc input nodes result
  shown (Ok outcome) checks said = inl (checks, said)
  shown (Err (At place fault)) checks said = said
  shown (Err Memory) checks said = tt

  known : (fault : LoopFault) (result : Answer) → (fault ≡ faults.Memory → ⊥) → ChecksLoop p typing desc nodes input (Err fault)
      → AnswersAs (refused_for fault) result → OfNodes p typing desc input nodes result
  known fault (Ok outcome) other checks said = inr (fault, (other, (checks, said)))
  known fault (Err (At place f)) other checks said = said
  known fault (Err Memory) other checks said = tt

  pub unshown : (fault : LoopFault) (result : Answer) → ChecksLoop p typing desc nodes input (Err fault) → IsSaidOf fault result
      → OfNodes p typing desc input nodes result
  unshown (faults.Graph node what) result checks said = known (faults.Graph node what) result (λ e. cc) checks said
  unshown (faults.EndNode node) result checks said = known (faults.EndNode node) result (λ e. cc) checks said
  unshown (faults.IdleCycle node) result checks said = known (faults.IdleCycle node) result (λ e. cc) checks said
  unshown faults.NotFitting result checks said = known faults.NotFitting result (λ e. cc) checks said
  unshown faults.Memory result checks said = subst (OfNodes p typing desc input nodes) (sym said) tt

pub shown_ever : (p : Program) (desc : Desc) (result : Answer) → AllGoOn p desc → GoOnIfDone p desc result
shown_ever p desc (Ok outcome) ever = λ done. ever
shown_ever p desc (Err refused) ever = tt

-- another status claims nothing
unclaimed : (p : Program) (desc : Desc) (said : Outcome) (result : Answer) → said.status ≡ 2 → AnswersAs said result → GoOnIfDone p desc result
unclaimed p desc said (Ok outcome) two is = λ done. absurd (omega (arith, ap (λ (o : Outcome). o.status) is, done, two))
unclaimed p desc said (Err refused) two is = tt

pub unshown_ever : (p : Program) (desc : Desc) (fault : LoopFault) (result : Answer) → IsSaidOf fault result → GoOnIfDone p desc result
unshown_ever p desc (faults.Graph node what) result said = unclaimed p desc (refused_for (faults.Graph node what)) result refl said
unshown_ever p desc (faults.EndNode node) result said = unclaimed p desc (refused_for (faults.EndNode node)) result refl said
unshown_ever p desc (faults.IdleCycle node) result said = unclaimed p desc (refused_for (faults.IdleCycle node)) result refl said
unshown_ever p desc faults.NotFitting result said = unclaimed p desc (refused_for faults.NotFitting) result refl said
unshown_ever p desc faults.Memory result said = subst (GoOnIfDone p desc) (sym said) tt

-- ---- what a certificate says

pub content_goes : (p : Program) (typing : ℕ → CodeTypes) (desc : Desc) (input : StateInput) (content : CertContent)
    (nodes : List GraphNode) (result : Answer) → IsFilledGraph p typing content.parts nodes → OfNodes p typing desc input nodes result
    → OfContent p typing desc input content result
content_goes p typing desc input content nodes (Ok outcome) filled h = (nodes, (filled, h))
content_goes p typing desc input content nodes (Err (At place fault)) filled h = h
content_goes p typing desc input content nodes (Err Memory) filled h = tt

-- ---- the bytes

module _ (cert : List ℕ) (p : Program) (typing : ℕ → CodeTypes) (desc : Desc) (input : StateInput) where
  pub text_shows : (names : List (List ℕ)) (content : CertContent) (result : Answer) → names ≡ names_of p.world
      → AnswersText (cert_of names) cert (Ok content) → OfContent p typing desc input content result → GoOnIfDone p desc result
      → Shows cert p typing desc input result
  text_shows names content result e said h ever =
      (reading_goes (OfContent p typing desc input) p cert (λ content place fault h. h) names content result e said h, ever)

  none_ever : (fault : CertFault) (result : Answer) → IsSaidOfText fault result → GoOnIfDone p desc result
  none_ever (certs.Json fault) (Ok outcome) said = λ done. absurd (omega (arith, ap (λ (o : Outcome). o.status) said, done))
  none_ever (certs.Limit place) (Ok outcome) said = λ done. absurd (omega (arith, ap (λ (o : Outcome). o.status) said, done))
  none_ever certs.Memory (Ok outcome) said = absurd (cc)
  none_ever fault (Err refused) said = tt

  pub none_shows : (names : List (List ℕ)) (fault : CertFault) (result : Answer) → names ≡ names_of p.world
      → AnswersText (cert_of names) cert (Err fault) → IsSaidOfText fault result → Shows cert p typing desc input result
  none_shows names fault result e said h =
      (reading_refused (OfContent p typing desc input) p cert names fault result e said h, none_ever fault result h)
