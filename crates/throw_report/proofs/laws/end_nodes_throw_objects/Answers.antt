use Rattle.throw_report.proofs.Thrown.{ends_throw}
use Rattle.throw_report.proofs.laws.end_nodes_throw_objects.Goals as goal

pub returns : goal.returns
returns c = ends_throw
