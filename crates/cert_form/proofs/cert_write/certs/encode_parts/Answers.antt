use Rattle.std.proofs.Common.{◌∙◌, ◌≤◌, ap, sym, subst}
use Rattle.serde_json.specs.Data.{Data, depth}
use Rattle.serde_json.specs.Written.{has_float}
use Rattle.serde_json.specs.View.{view}
use Rattle.cert_form.specs.cert_write.Data.{certificate_of}
use Rattle.cert_form.proofs.Plain.{some_nodes}
use Rattle.cert_form.proofs.CertBacks.{says_if}
use Rattle.cert_form.proofs.cert_write.certs.encode_parts.Goals as goal

pub text-requires-clause-floats : goal.text-requires-clause-floats
text-requires-clause-floats g c = ap (λ (d : Data). has_float d) c.in_ok-nodes.ensures
    ∙ (some_nodes c.args.names.now (g.S.PartSource.parts c.args.source.now)).floats

pub text-requires-clause-nests : goal.text-requires-clause-nests
text-requires-clause-nests g c = subst (λ (d : Data). depth d ≤ 6) (sym c.in_ok-nodes.ensures)
    (some_nodes c.args.names.now (g.S.PartSource.parts c.args.source.now)).nests

pub returns-clause-again : goal.returns-clause-again
returns-clause-again g c =
    λ is. says_if c.args.second c.args.names.now
    (record { cuts = c.args.cuts.now; parts = g.S.PartSource.parts c.args.source.now; proof = c.args.proof.now.steps })
    (certificate_of c.args.second c.args.cuts.now (view c.in_ok-nodes.nodes) c.args.proof.now.steps) c.text.result
    (ap (λ (d : Data). certificate_of c.args.second c.args.cuts.now d c.args.proof.now.steps) c.in_ok-nodes.ensures)
    c.text.ensures.reads is
