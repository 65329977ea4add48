use Rattle.std.proofs.Common.{◌∙◌, List, subst}
use Rattle.term_graph.specs.Graphs.{GraphNode}
use Rattle.path_rules.proofs.Following.{IsLeft}
use Rattle.bound_check.proofs.Ending.{one_ended}
use Rattle.bound_check.proofs.walks.end_marks.Goals as goal

pub loop-n-preserved : goal.loop-n-preserved
loop-n-preserved g c = record {
  same = c.in_ok-by.ensures.same ∙ c.loop-n.invariant.same;
  made = one_ended (g.S.NodeSource.graph c.args.source.now) c.loop-n.n c.in_ok-by.by c.loop-n.ends c.push.new.self
      c.is_end.result c.loop-n.invariant.made
      (subst (λ (graph : List GraphNode). IsLeft graph c.loop-n.n c.in_ok-by.by) c.loop-n.invariant.same c.in_ok-by.ensures.by)
      c.is_end.ensures c.in_ok-push.ensures.items;
}
