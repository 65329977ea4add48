-- Words for the calls that say what becomes of a certificate.
use Rattle.std.specs.Prelude.{Result}
use Rattle.input_steps.specs.declared.refused.Refused.{Refused}
use Rattle.desc_steps.specs.Answers.{AnswersAs}
use Rattle.cert_verdict.specs.declared.verdict.CertVerdict.{CertVerdict}
use Rattle.cert_verdict.specs.declared.verdict.CertVerdict.TheVariants as verdicts
use Rattle.check_call.specs.declared.outcome.Outcome.{Outcome}
use Rattle.check_call.specs.Answers.{IsSaidOfText}
use Rattle.check_call.specs.Causes.{cause_text}
use Rattle.check_call.specs.Lines.{accepted, refused_at}

-- what is said for a verdict
abbrev pub IsSaid : CertVerdict → Result Outcome Refused → Type 0
IsSaid verdicts.Accepted result = AnswersAs accepted result
IsSaid (verdicts.Refused item cause) result = AnswersAs (refused_at item (cause_text cause)) result
IsSaid (verdicts.NoText fault) result = IsSaidOfText fault result
