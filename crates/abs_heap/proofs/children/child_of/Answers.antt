use Rattle.abs_heap.proofs.Giving.{child_listed}
use Rattle.abs_heap.proofs.children.child_of.Goals as goal
use Rattle.std.proofs.lemmas.Result.{IfOk-weaker}

pub returns : goal.returns
returns g c = IfOk-weaker c.whole.result _ _
    (λ child is. child_listed c.args.state.now child _ c.args.cells _ _ _ _ c.as_slice-list.ensures c.requires c.eq.ensures
    c.share.ensures c.in_ok-eq.ensures c.in_ok-share.ensures is) c.whole.ensures
