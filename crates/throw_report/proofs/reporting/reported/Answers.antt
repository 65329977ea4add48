use Rattle.std.proofs.Common.{◌∙◌, List, arith, subst}
use Rattle.term_graph.specs.Graphs.{GraphNode}
use Rattle.throw_report.specs.inner.Words.{AddsMarked}
use Rattle.throw_report.proofs.Adding.{one_step, all_done}
use Rattle.throw_report.proofs.reporting.reported.Goals as goal

pub loop-n-preserved : goal.loop-n-preserved
loop-n-preserved g c = record {
  same = c.in_ok-more.ensures.same ∙ c.loop-n.invariant.same;
  made = one_step (g.S.NodeSource.graph c.args.source.now) c.loop-n.n c.args.marks.now c.loop-n.report c.in_ok-more.more
      c.requires.marked (omega (arith, c.loop-n-test.true, c.count-n-end.ensures))
      (subst (λ (nodes : List GraphNode). AddsMarked nodes c.args.marks.now c.loop-n.n c.loop-n.report c.in_ok-more.more)
      c.loop-n.invariant.same c.in_ok-more.ensures.adds)
      c.loop-n.invariant.made;
}

pub returns-clause-report : goal.returns-clause-report
returns-clause-report g c = all_done (g.S.NodeSource.graph c.args.source.now) c.loop-n.n c.loop-n.report
    (omega (arith, c.loop-n-test.false, c.count-n-end.ensures)) c.loop-n.invariant.made
