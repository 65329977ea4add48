use Rattle.std.proofs.Common.{◌≡◌, ◌∙◌, ◌+◌, ◌<◌, ◌≤◌, ◌&&◌, false, slice_get, refl, ap, sym, subst, List, map, length, arith}
use Rattle.std.specs.Option.{unwrap_or}
use Rattle.serde_json.specs.Data.{Data, array}
use Rattle.serde_json.specs.View.{view, items_of}
use Rattle.serde_json.proofs.Views.{view-Array}
use Rattle.term_graph.specs.Graphs.{GraphNode}
use Rattle.cert_form.specs.cert_write.Data.{node, part_of}
use Rattle.cert_form.specs.cert_write.inner.Nodes.{IsPut}
use Rattle.cert_form.proofs.WritingNodes.{AreWritten, none_written, write_on, all_written}
use Rattle.cert_form.proofs.cert_write.certs.all_nodes.Goals as goal

pub loop-n-init : goal.loop-n-init
loop-n-init g c =
    record {
      written = subst (λ (values : List Data). AreWritten c.args.second c.args.words.now.names.now
          (g.S.NodeSource.graph c.args.source.now) 0
          c.count-count.result c.in_ok-named.named values) (sym (ap (map view) c.new-values.ensures.items))
          (none_written c.args.second c.args.words.now.names.now (g.S.NodeSource.graph c.args.source.now) c.count-count.result
          c.in_ok-named.named
          c.in_ok-named.ensures);
      same = refl;
    }

pub loop-n-preserved : goal.loop-n-preserved
loop-n-preserved g c =
    let names = c.args.words.now.names.now in
    let graph : List GraphNode = g.S.NodeSource.graph c.args.source.now in
    let before : List Data = map view c.loop-n.values.items in
    let put : IsPut c.args.second names graph c.loop-n.n c.loop-n.named c.put_next.new.named before
    (map view c.put_next.new.values.items) =
    subst (λ (nodes : List GraphNode). IsPut c.args.second names nodes c.loop-n.n c.loop-n.named c.put_next.new.named before
    (map view c.put_next.new.values.items)) c.loop-n.invariant.same c.in_ok-put_next.ensures.next in
    let lacks = (c.args.second && unwrap_or (slice_get c.loop-n.named c.loop-n.n) false) in
    let within : c.loop-n.n < c.count-count.result = omega arith in
    record {
      written =
          subst (λ (values : List Data). AreWritten c.args.second names graph (c.loop-n.n + 1) c.count-count.result
          c.put_next.new.named values)
          (sym put.put)
          (write_on c.args.second names graph c.loop-n.n c.count-count.result c.loop-n.named c.put_next.new.named before lacks put.next
          (node names (part_of lacks put.next)) c.loop-n.invariant.written within put.is_next refl refl put.marked);
      same = c.put_next.ensures.same ∙ c.loop-n.invariant.same;
    }

pub returns-clause-nodes : goal.returns-clause-nodes
returns-clause-nodes g c =
    let past : length (g.S.NodeSource.graph c.args.source.now) ≤ c.loop-n.n = omega arith in
    view-Array c.loop-n.values
    ∙ ap (λ (ds : List Data). array (items_of ds))
    (all_written c.args.second c.args.words.now.names.now (g.S.NodeSource.graph c.args.source.now)
    c.loop-n.n c.count-count.result c.loop-n.named (map view c.loop-n.values.items) c.loop-n.invariant.written past)
