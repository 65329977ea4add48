use Rattle.std.proofs.Common.{◌∙◌, ap, sym, Option, Some, None}
use Rattle.serde_json.specs.View.{view}
use Rattle.json_view.specs.Located.{located, root_of}
use Rattle.abs_cells.specs.AbstractStates.{AbstractState}
use Rattle.cert_form.proofs.Known.{state_known}
use Rattle.cert_form.proofs.certs.CertText.state.Goals as goal

pub returns-in-Ok-Some : goal.returns-in-Ok-Some
returns-in-Ok-Some g c =
    state_known c.self.inside.names.now (root_of (view c.self.inside.value)) (located c.root.result) _ c.args.self.now c.args.n
    c.in-Ok-Some.field-0 c.self.invariant.0 c.root.ensures c.self.view_is c.requires c.in-Ok-Some.ensures
    ∙ ap (λ (s : Option AbstractState). Some s) c.in-Ok-Some.field-0-is
    ∙ ap (λ (s : AbstractState). Some (Some s)) (sym c.in_ok-into_state-in-Ok-Some.ensures)

pub returns-in-Ok-None : goal.returns-in-Ok-None
returns-in-Ok-None g c =
    state_known c.self.inside.names.now (root_of (view c.self.inside.value)) (located c.root.result) _ c.args.self.now c.args.n
    c.in-Ok-None.field-0 c.self.invariant.0 c.root.ensures c.self.view_is c.requires c.in-Ok-None.ensures
    ∙ ap (λ (s : Option AbstractState). Some s) c.in-Ok-None.field-0-is
