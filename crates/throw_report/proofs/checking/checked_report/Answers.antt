use Rattle.class_program.specs.Views.{program_of}
use Rattle.code_verify.specs.Typings.{typing_at}
use Rattle.throw_report.proofs.Checked.{own_runs_end}
use Rattle.throw_report.proofs.checking.checked_report.Goals as goal

pub returns-in_ok-report-in-Ok-clause-ends : goal.returns-in_ok-report-in-Ok-clause-ends
returns-in_ok-report-in-Ok-clause-ends g c = own_runs_end (program_of c.args.program.now) (typing_at c.args.typing.now) c.args.root.now
    (g.S.NodeSource.graph c.args.source.now) _ c.args.cuts.now c.in_ok-report-in-Ok.field-0 c.certified_runs_end_as_reported.ensures
    c.is_good.ensures.closed c.is_good.ensures.widths c.requires.typing c.in-Ok.ensures.same c.in-Ok.ensures.certified
    c.in_ok-report-in-Ok.ensures.report
