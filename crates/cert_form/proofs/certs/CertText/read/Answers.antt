use Rattle.serde_json.specs.View.{view}
use Rattle.json_view.specs.Located.{located, root_of}
use Rattle.cert_form.proofs.Known.{read_named, read_few, read_steps, refused}
use Rattle.cert_form.proofs.certs.CertText.read.Goals as goal

pub returns-in-Ok-clause-named : goal.returns-in-Ok-clause-named
returns-in-Ok-clause-named c = read_named c.args.names.now (located c.root.result) (root_of (view c.in_ok-value.value))
    c.in-Ok.field-0 c.root.ensures c.in-Ok.ensures

pub returns-in-Ok-clause-few : goal.returns-in-Ok-clause-few
returns-in-Ok-clause-few c = read_few c.args.names.now (located c.root.result) (root_of (view c.in_ok-value.value)) c.in-Ok.field-0
    c.root.ensures c.in-Ok.ensures

pub returns-in-Ok-clause-steps : goal.returns-in-Ok-clause-steps
returns-in-Ok-clause-steps c = read_steps c.args.names.now (located c.root.result) (root_of (view c.in_ok-value.value))
    c.in-Ok.field-0 c.root.ensures c.in-Ok.ensures

pub returns-clause-answer : goal.returns-clause-answer
returns-clause-answer c = refused c.args.names.now c.args.bytes.now (view c.in_ok-value.value) (located c.root.result)
    c.in-Err.fault c.root.ensures c.in_ok-value.ensures c.in-Err.ensures
