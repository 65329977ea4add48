-- A certificate, a description and class files have one answer.
use Rattle.std.proofs.Common.{◌≡◌, ◌∙◌, sym, ap}
use Rattle.cert_check.specs.Valid.{Case, IsValid}
use Rattle.throw_report.proofs.OneReport.{one_report}
use Rattle.check_call.specs.declared.outcome.Outcome.{Outcome}
use Rattle.check_call.proofs.OneAnswer.{bytes_one}
use Rattle.cert_calls.specs.throws_call.Answers.{reported, SaysReport}
use Rattle.cert_calls.specs.throws_call.Laws.{AnswersAreOne}

report_one : (case : Case) (v w : IsValid case) (x y : Outcome) → SaysReport case v x → SaysReport case w y → x ≡ y
report_one case v w x y h k = h.1.1 ∙ (ap (reported case.program.world) (one_report case.nodes h.0 k.0 h.1.0 k.1.0) ∙ sym k.1.1)

pub answers_one : AnswersAreOne
answers_one = bytes_one SaysReport report_one
