-- What is said of a certificate, and what its lines claim.
use Rattle.std.proofs.Common.{◌≡◌, ℕ, List, Result, Ok, Err, inl, ap, arith}
use Rattle.abs_cells.specs.AbstractStates.{AbstractState}
use Rattle.class_program.specs.Programs.{Program}
use Rattle.input_desc.specs.declared.desc.Desc.{Desc}
use Rattle.input_desc.specs.Descs.{IsOwnDesc}
use Rattle.input_desc.specs.Initial.{initial_of}
use Rattle.input_steps.specs.declared.refused.Refused.{Refused}
use Rattle.input_steps.specs.declared.refused.Refused.TheVariants.{At, Memory}
use Rattle.cert_form.specs.declared.fault.CertFault.{CertFault}
use Rattle.cert_form.specs.declared.fault.CertFault.TheVariants as certs
use Rattle.cert_check.specs.Valid.{Case, IsValid}
use Rattle.desc_steps.specs.Answers.{AnswersAs}
use Rattle.desc_steps.specs.Headline.{NameProgram}
use Rattle.throw_report.specs.declared.ways.Report.{Report}
use Rattle.throw_report.specs.Answers.{OwnRunsEnd}
use Rattle.throw_report.specs.Reports.{IsReport}
use Rattle.check_call.specs.declared.outcome.Outcome.{Outcome}
use Rattle.check_call.specs.Answers.{OfCase}
use Rattle.check_call.specs.Lines.{refused_at}
use Rattle.check_call.specs.Answers.{IsSaidOfText}
use Rattle.cert_calls.specs.throws_call.Answers.{reported, SaysReport}
use Rattle.cert_calls.specs.throws_call.Headline.{AllEndAsSaidIfDone}
use Rattle.cert_calls.specs.throws_call.inner.Words.{EndAsReported, EndAsDescribed}

abbrev Answer : Type 0
Answer = Result Outcome Refused

-- ---- nodes

pub reports : (case : Case) (valid : IsValid case) (report : Report) (result : Answer) → IsReport case.nodes report
    → AnswersAs (reported case.program.world report) result → OfCase SaysReport case result
reports case valid report (Ok outcome) is said = inl (valid, (report, (is, said)))
reports case valid report (Err (At place fault)) is said = said
reports case valid report (Err Memory) is said = tt

pub reports_end : (p : Program) (root : AbstractState) (report : Report) (result : Answer) → OwnRunsEnd p root report
    → AnswersAs (reported p.world report) result → EndAsReported p root result
reports_end p root report (Ok outcome) ends said = λ done. record { report = report; is = said; ends = ends }
reports_end p root report (Err refused) ends said = tt

-- a refusal claims nothing
pub refused_ends : (p : Program) (root : AbstractState) (item : ℕ) (cause : List ℕ) (result : Answer)
    → AnswersAs (refused_at item cause) result → EndAsReported p root result
refused_ends p root item cause (Ok outcome) said = λ done. absurd (omega (arith, ap (λ (o : Outcome). o.status) said, done))
refused_ends p root item cause (Err refused) said = tt

-- ---- bytes

pub described : (p : Program) (root : AbstractState) (desc : Desc) (result : Answer) → IsOwnDesc p desc → root ≡ initial_of p desc
    → EndAsReported p root result → EndAsDescribed p desc result
described p root desc (Ok outcome) own is ends = λ done.
    let h = ends done in
    record { report = h.report; is = h.is; ends = h.ends desc own is }
described p root desc (Err refused) own is ends = tt

pub text_ends : (p : Program) (desc : Desc) (fault : CertFault) (result : Answer) → IsSaidOfText fault result → EndAsDescribed p desc result
text_ends p desc (certs.Json fault) (Ok outcome) said = λ done. absurd (omega (arith, ap (λ (o : Outcome). o.status) said, done))
text_ends p desc (certs.Limit place) (Ok outcome) said = λ done. absurd (omega (arith, ap (λ (o : Outcome). o.status) said, done))
text_ends p desc certs.Memory (Ok outcome) said = absurd (cc)
text_ends p desc fault (Err refused) said = tt

-- ---- files

pub claimed : (desc : List ℕ) (files : List (List ℕ)) (p : Program) (described : Desc) (result : Answer)
    → NameProgram files desc p described → EndAsDescribed p described result → AllEndAsSaidIfDone files desc result
claimed desc files p described (Ok outcome) named ends = λ done.
    let h = ends done in
    record {
      program = p;
      described = described;
      named = named;
      report = h.report;
      said = ap (λ (o : Outcome). o.out) h.is;
      ends = h.ends;
    }
claimed desc files p described (Err refused) named ends = tt
