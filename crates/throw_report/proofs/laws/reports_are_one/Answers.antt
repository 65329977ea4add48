use Rattle.throw_report.proofs.OneReport.{one_report}
use Rattle.throw_report.proofs.laws.reports_are_one.Goals as goal

pub returns : goal.returns
returns c = one_report
