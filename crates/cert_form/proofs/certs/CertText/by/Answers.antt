use Rattle.serde_json.specs.View.{view}
use Rattle.json_view.specs.Located.{located, root_of}
use Rattle.cert_form.proofs.Known.{by_known}
use Rattle.cert_form.proofs.certs.CertText.by.Goals as goal

pub returns-in-Ok : goal.returns-in-Ok
returns-in-Ok c = by_known c.self.inside.names.now (root_of (view c.self.inside.value)) (located c.root.result) _ c.args.self.now
    c.args.n c.in-Ok.by c.self.invariant.0 c.root.ensures c.self.view_is c.requires c.in-Ok.ensures
