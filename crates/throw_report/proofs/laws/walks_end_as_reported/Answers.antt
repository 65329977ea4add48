use Rattle.throw_report.proofs.Walking.{walks_end_reported}
use Rattle.throw_report.proofs.laws.walks_end_as_reported.Goals as goal

pub returns : goal.returns
returns c = walks_end_reported c.graphs_hold_runs.ensures
