-- What is said of a certificate, and what its lines claim.
use Rattle.std.proofs.Common.{◌≡◌, ℕ, List, Result, Ok, Err, inl, inr, ap, arith}
use Rattle.abs_cells.specs.AbstractStates.{AbstractState}
use Rattle.class_program.specs.Programs.{Program}
use Rattle.input_desc.specs.declared.desc.Desc.{Desc}
use Rattle.input_desc.specs.Descs.{IsOwnDesc}
use Rattle.input_desc.specs.Initial.{initial_of}
use Rattle.input_steps.specs.declared.refused.Refused.{Refused}
use Rattle.input_steps.specs.declared.refused.Refused.TheVariants.{At, Memory}
use Rattle.cert_form.specs.declared.fault.CertFault.{CertFault}
use Rattle.cert_form.specs.declared.fault.CertFault.TheVariants as certs
use Rattle.cert_check.specs.Valid.{Case, IsValid}
use Rattle.desc_steps.specs.Answers.{AnswersAs}
use Rattle.desc_steps.specs.Headline.{NameProgram}
use Rattle.bound_check.specs.declared.bound.Bound.{Bound}
use Rattle.bound_check.specs.declared.fault.BoundFault.TheVariants as faults
use Rattle.bound_check.specs.declared.refusal.BoundRefusal.{BoundRefusal}
use Rattle.bound_check.specs.declared.refusal.BoundRefusal.TheVariants.{NoText, Faulty}
use Rattle.bound_check.specs.Answers.{Bounded, OwnRunsBounded}
use Rattle.check_call.specs.declared.outcome.Outcome.{Outcome}
use Rattle.check_call.specs.Answers.{OfCase}
use Rattle.check_call.specs.Lines.{refused_at}
use Rattle.check_call.specs.Answers.{IsSaidOfText}
use Rattle.cert_calls.specs.bound_call.Answers.{SaysBound}
use Rattle.cert_calls.specs.bound_call.Headline.{AllEndWithinIfDone}
use Rattle.cert_calls.specs.bound_call.Lines.{bounded, refused_for}
use Rattle.cert_calls.specs.bound_call.inner.Words.{EndWithin, EndAsDescribed}

abbrev Answer : Type 0
Answer = Result Outcome Refused

-- ---- nodes

module _ (case : Case) (bytes : List ℕ) where
  pub bounds : (bound : Bound) (result : Answer) → Bounded case bytes (Ok (Ok bound)) → AnswersAs (bounded case.program.world bound) result
      → OfCase (SaysBound bytes) case result
  bounds bound (Ok outcome) is said = inl (is.valid, inl (bound, (is, said)))
  bounds bound (Err (At place fault)) is said = said
  bounds bound (Err Memory) is said = tt

  -- bytes that give no bound are beside a valid certificate
  beside : (refusal : BoundRefusal) → Bounded case bytes (Ok (Err refusal)) → IsValid case
  beside (NoText fault) is = is.0
  beside (Faulty (faults.NotRank entry step)) is = is.valid
  beside (Faulty (faults.BadList entry)) is = is.valid
  beside (Faulty (faults.Lin entry fault)) is = is.valid
  beside (Faulty (faults.NotWeak entry rule)) is = is.valid
  beside (Faulty (faults.Missing step)) is = is.valid
  beside (Faulty faults.Memory) is = absurd is

  pub unbound : (refusal : BoundRefusal) (result : Answer) → Bounded case bytes (Ok (Err refusal)) → AnswersAs (refused_for refusal) result
      → OfCase (SaysBound bytes) case result
  unbound refusal (Ok outcome) is said = inl (beside refusal is, inr (refusal, (is, said)))
  unbound refusal (Err (At place fault)) is said = said
  unbound refusal (Err Memory) is said = tt

module _ (p : Program) (root : AbstractState) where
  pub bounds_end : (bound : Bound) (result : Answer) → OwnRunsBounded p root bound → AnswersAs (bounded p.world bound) result
      → EndWithin p root result
  bounds_end bound (Ok outcome) ends said = λ done. record { bound = bound; is = said; ends = ends }
  bounds_end bound (Err refused) ends said = tt

  -- a refusal claims nothing
  pub unbound_ends : (refusal : BoundRefusal) (result : Answer) → AnswersAs (refused_for refusal) result → EndWithin p root result
  unbound_ends refusal (Ok outcome) said = λ done. absurd (omega (arith, ap (λ (o : Outcome). o.status) said, done))
  unbound_ends refusal (Err refused) said = tt

  pub refused_ends : (item : ℕ) (cause : List ℕ) (result : Answer) → AnswersAs (refused_at item cause) result → EndWithin p root result
  refused_ends item cause (Ok outcome) said = λ done. absurd (omega (arith, ap (λ (o : Outcome). o.status) said, done))
  refused_ends item cause (Err refused) said = tt

-- ---- bytes

pub described : (p : Program) (root : AbstractState) (desc : Desc) (result : Answer) → IsOwnDesc p desc → root ≡ initial_of p desc
    → EndWithin p root result → EndAsDescribed p desc result
described p root desc (Ok outcome) own is ends = λ done.
    let h = ends done in
    record { bound = h.bound; is = h.is; ends = h.ends desc own is }
described p root desc (Err refused) own is ends = tt

pub text_ends : (p : Program) (desc : Desc) (fault : CertFault) (result : Answer) → IsSaidOfText fault result → EndAsDescribed p desc result
text_ends p desc (certs.Json fault) (Ok outcome) said = λ done. absurd (omega (arith, ap (λ (o : Outcome). o.status) said, done))
text_ends p desc (certs.Limit place) (Ok outcome) said = λ done. absurd (omega (arith, ap (λ (o : Outcome). o.status) said, done))
text_ends p desc certs.Memory (Ok outcome) said = absurd (cc)
text_ends p desc fault (Err refused) said = tt

-- ---- files

pub claimed : (desc : List ℕ) (files : List (List ℕ)) (p : Program) (described : Desc) (result : Answer)
    → NameProgram files desc p described → EndAsDescribed p described result → AllEndWithinIfDone files desc result
claimed desc files p described (Ok outcome) named ends = λ done.
    let h = ends done in
    record {
      program = p;
      described = described;
      named = named;
      bound = h.bound;
      said = ap (λ (o : Outcome). o.out) h.is;
      bounded = h.ends;
    }
claimed desc files p described (Err refused) named ends = tt
