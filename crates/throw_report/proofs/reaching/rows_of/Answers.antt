use Rattle.std.proofs.Common.{◌∙◌, List, subst}
use Rattle.term_graph.specs.Graphs.{GraphNode}
use Rattle.path_rules.proofs.Following.{IsLeft, one_listed}
use Rattle.throw_report.proofs.reaching.rows_of.Goals as goal

pub loop-n-preserved : goal.loop-n-preserved
loop-n-preserved g c = record {
  same = c.in_ok-by.ensures.same ∙ c.loop-n.invariant.same;
  made = one_listed (g.S.NodeSource.graph c.args.source.now) c.loop-n.n c.in_ok-by.by c.loop-n.rows c.push.new.self
      c.in_ok-successors_of.field-0 c.loop-n.invariant.made
      (subst (λ (graph : List GraphNode). IsLeft graph c.loop-n.n c.in_ok-by.by) c.loop-n.invariant.same c.in_ok-by.ensures.by)
      c.in_ok-successors_of.ensures c.in_ok-push.ensures.items;
}
