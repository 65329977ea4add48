use Rattle.abs_heap.proofs.Giving.{given_as, over_state}
use Rattle.abs_heap.proofs.children.with_cell.Goals as goal
use Rattle.std.proofs.lemmas.Result.{IfOk-weaker}

pub returns : goal.returns
returns g c = IfOk-weaker c.child_of.result _ _
    (λ child is. given_as c.args.state.now.frames c.args.state.now.throwing _ _ _ _ child
    (over_state c.args.state.now _ _ _ _ _ c.new-cells.ensures.items c.in_ok-put_cell.ensures c.in_ok-put_state.ensures
    c.from_vec.ensures) is) c.child_of.ensures
