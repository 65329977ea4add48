use Rattle.std.proofs.Common.{◌∙◌, ◌≤◌, ap, List, length, arith}
use Rattle.serde_json.specs.Data.{Data, array}
use Rattle.serde_json.specs.View.{items_of}
use Rattle.serde_json.proofs.Views.{view-Array}
use Rattle.cert_form.specs.cert_write.Data.{node}
use Rattle.cert_form.proofs.WritingNodes.{value_next, values_taken, part_at}
use Rattle.cert_form.proofs.cert_write.certs.all_parts.Goals as goal

pub loop-n-preserved : goal.loop-n-preserved
loop-n-preserved g c =
    value_next (node c.args.words.now.names.now) (g.S.PartSource.parts c.args.source.now) c.loop-n.n
    (record { state = c.in_ok-state.state; by = c.in_ok-by.by }) c.loop-n.values.items _ c.in_ok-part.field-0
    (part_at (g.S.PartSource.parts c.args.source.now) c.loop-n.n c.in_ok-by.by c.in_ok-state.state c.in_ok-by.ensures
    c.in_ok-state.ensures) c.loop-n.invariant c.in_ok-part.ensures c.in_ok-push.ensures.items

pub returns : goal.returns
returns g c =
    let past : length (g.S.PartSource.parts c.args.source.now) ≤ c.loop-n.n = omega arith in
    view-Array c.loop-n.values
    ∙ ap (λ (ds : List Data). array (items_of ds))
    (values_taken (node c.args.words.now.names.now) (g.S.PartSource.parts c.args.source.now) c.loop-n.n c.loop-n.values.items
    past c.loop-n.invariant)
