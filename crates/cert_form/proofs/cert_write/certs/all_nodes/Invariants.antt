use Rattle.std.proofs.Common.{◌≡◌, map}
use Rattle.serde_json.specs.View.{view}
use Rattle.cert_form.proofs.WritingNodes.{AreWritten}
use Rattle.cert_form.proofs.cert_write.certs.all_nodes.Given as goal

-- the nodes so far were written, and the source has the graph that it had
abbrev pub invariant-loop-n : goal.invariant-loop-n
invariant-loop-n g l =
    record {
      written : AreWritten l.second l.words.names.now (g.S.NodeSource.graph l.fn.source) l.n l.count l.named (map view l.values.items);
      same : g.S.NodeSource.graph l.source ≡ g.S.NodeSource.graph l.fn.source;
    }
