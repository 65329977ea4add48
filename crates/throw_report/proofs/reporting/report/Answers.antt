use Rattle.throw_report.proofs.Checked.{walks_end_so}
use Rattle.throw_report.proofs.reporting.report.Goals as goal

pub returns-clause-walks : goal.returns-clause-walks
returns-clause-walks g c = walks_end_so (g.S.NodeSource.graph c.args.source.now) _ c.in_ok-report.report
    c.walks_end_as_reported.ensures c.in_ok-marks.ensures.same c.in_ok-report.ensures.report
