use Rattle.std.proofs.Common.{◌∙◌, List, ap, subst}
use Rattle.term_graph.specs.declared.links.Link.{Link}
use Rattle.term_graph.specs.Graphs.{GraphNode}
use Rattle.loop_check.specs.Loops.{idle_row}
use Rattle.loop_check.proofs.Seeking.{IsLeft}
use Rattle.loop_check.proofs.Waiting.{one_listed}
use Rattle.loop_check.proofs.idling.idle_rows.Goals as goal

pub loop-n-preserved : goal.loop-n-preserved
loop-n-preserved g c = record {
  same = c.in_ok-by.ensures.same ∙ c.loop-n.invariant.same;
  made = one_listed (g.S.NodeSource.graph c.args.source.now) c.args.links.now.nodes c.loop-n.n c.in_ok-by.by c.loop-n.rows
      c.push.new.self c.in_ok-idle_row.field-0 c.loop-n.invariant.made
      (subst (λ (ns : List GraphNode). IsLeft ns c.loop-n.n c.in_ok-by.by) c.loop-n.invariant.same c.in_ok-by.ensures.by)
      (c.in_ok-idle_row.ensures ∙ ap (λ (own : List Link). idle_row c.in_ok-by.by own) c.links_at.ensures) c.in_ok-push.ensures.items;
}
