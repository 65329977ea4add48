use Rattle.std.proofs.Common.{◌∙◌, ◌≤◌, [], ap, sym, subst}
use Rattle.serde_json.specs.Data.{Data, depth}
use Rattle.serde_json.specs.Written.{has_float}
use Rattle.serde_json.specs.View.{view}
use Rattle.cert_form.specs.cert_write.Data.{parts_from, certificate_of, content_in}
use Rattle.cert_form.proofs.Plain.{some_nodes}
use Rattle.cert_form.proofs.CertBacks.{says_if, graph_is}
use Rattle.cert_form.proofs.cert_write.certs.encode.Goals as goal

pub text-requires-clause-floats : goal.text-requires-clause-floats
text-requires-clause-floats g c = ap (λ (d : Data). has_float d) c.in_ok-nodes.ensures.nodes
    ∙ (some_nodes c.args.names.now (parts_from c.args.second [] (g.S.NodeSource.graph c.args.source.now))).floats

pub text-requires-clause-nests : goal.text-requires-clause-nests
text-requires-clause-nests g c = subst (λ (d : Data). depth d ≤ 6) (sym c.in_ok-nodes.ensures.nodes)
    (some_nodes c.args.names.now (parts_from c.args.second [] (g.S.NodeSource.graph c.args.source.now))).nests

pub returns-clause-again : goal.returns-clause-again
returns-clause-again g c =
    λ is. says_if c.args.second c.args.names.now (content_in c.args.second (g.S.NodeSource.graph c.args.source.now) c.args.cuts.now
    c.args.proof.now.steps)
    (certificate_of c.args.second c.args.cuts.now (view c.in_ok-nodes.nodes) c.args.proof.now.steps) c.text.result
    (ap (λ (d : Data). certificate_of c.args.second c.args.cuts.now d c.args.proof.now.steps) c.in_ok-nodes.ensures.nodes)
    c.text.ensures.reads
    (graph_is c.args.second c.args.names.now (g.S.NodeSource.graph c.args.source.now) c.args.cuts.now c.args.proof.now.steps is)
