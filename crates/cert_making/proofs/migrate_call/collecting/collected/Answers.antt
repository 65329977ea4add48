use Rattle.std.proofs.Common.{◌≡◌, ◌∙◌, List, Some, slice_get, subst}
use Rattle.term_graph.specs.Graphs.{GraphNode}
use Rattle.cert_making.proofs.Taken.{one_taken, still_few}
use Rattle.cert_making.proofs.migrate_call.collecting.collected.Goals as goal

pub push-requires : goal.push-requires
push-requires g c = still_few (g.S.NodeSource.graph c.args.source.now) c.loop-n.graph c.loop-n.n c.loop-n.invariant.made c.requires.few

pub loop-n-preserved : goal.loop-n-preserved
loop-n-preserved g c = record {
  same = c.in_ok-node.ensures.same ∙ c.loop-n.invariant.same;
  made = one_taken (g.S.NodeSource.graph c.args.source.now) c.loop-n.graph c.push.new.self c.loop-n.n c.in_ok-node.node
      c.loop-n.invariant.made
      (subst (λ (graph : List GraphNode). slice_get graph c.loop-n.n ≡ Some c.in_ok-node.node) c.loop-n.invariant.same
      c.in_ok-node.ensures.node)
      c.in_ok-push.ensures.ok;
}
