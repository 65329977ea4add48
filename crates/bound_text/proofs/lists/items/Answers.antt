use Rattle.std.proofs.Common.{◌≡◌, ◌∙◌, arith}
use Rattle.json_view.specs.Located.{located}
use Rattle.input_text.proofs.Items.{starts, goes_on, stops, is_read}
use Rattle.bound_text.proofs.lists.items.Goals as goal

pub loop-n-init : goal.loop-n-init
loop-n-init g c = rw c.new-items.ensures (starts g.T.Said.reader (located c.args.view.now) c.args.count c.requires.list)

pub loop-n-preserved : goal.loop-n-preserved
loop-n-preserved g c = rw c.in_ok-push-in-Ok.ensures.items
    (goes_on g.T.Said.reader (located c.args.view.now) (located c.item.result) c.loop-n.n c.loop-n.items c.in-Ok.item
    c.loop-n.invariant c.item.ensures c.in-Ok.ensures)

pub returns-in-Err : goal.returns-in-Err
returns-in-Err g c = stops g.T.Said.reader (located c.args.view.now) (located c.item.result) c.loop-n.n c.loop-n.items
    c.in-Err.fault c.loop-n.invariant c.item.ensures c.in-Err.ensures

pub returns : goal.returns
returns g c =
    let k : c.loop-n.n ≡ c.args.count = omega arith in
    is_read g.T.Said.reader (located c.args.view.now) c.loop-n.n c.loop-n.items c.loop-n.invariant (k ∙ c.requires.count)
