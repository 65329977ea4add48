use Rattle.abs_heap.proofs.Reading.{item_given}
use Rattle.abs_heap.proofs.items.with_item.Goals as goal
use Rattle.std.proofs.lemmas.Result.{IfOk-weaker}

pub returns : goal.returns
returns g c = IfOk-weaker c.whole.result _ _ (λ child is. item_given (g.T.Types.sub c.args.types.now) c.args.state.now c.args.k
    c.args.item c.args.element c.args.shape _ _ _ _ _ _ _ _ _ _ _ _ _ c.new-cells.ensures.items c.in_ok-put_cell.ensures
    c.in_ok-put_state.ensures c.from_vec-cells.ensures c.as_slice-list.ensures c.eq.ensures c.share.ensures c.in_ok-eq.ensures
    c.in_ok-share.ensures c.item_partners-others.ensures c.in_ok-put_compatible.ensures c.in_ok-put_with.ensures
    c.in_ok-put_pair.ensures child is) c.whole.ensures
