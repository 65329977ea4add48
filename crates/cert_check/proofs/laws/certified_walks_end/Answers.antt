use Rattle.cert_check.proofs.Ending.{walks_end, last_nodes_end}
use Rattle.cert_check.proofs.laws.certified_walks_end.Goals as goal

pub returns : goal.returns
returns c = record {
  finite = walks_end c.steps_are_typed.ensures c.walks_meet_rules.ensures c.graphs_hold_runs.ensures;
  last = last_nodes_end c.steps_are_typed.ensures c.walks_meet_rules.ensures c.graphs_hold_runs.ensures;
}
