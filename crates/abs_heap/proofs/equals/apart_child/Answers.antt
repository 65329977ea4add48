use Rattle.abs_heap.proofs.Merging.{apart_answer, apart_given}
use Rattle.abs_heap.proofs.equals.apart_child.Goals as goal

pub returns : goal.returns
returns g c = apart_answer c.args.state.now c.in_ok-apart.apart c.args.x c.args.y _ _ c.new.ensures c.plain_link.ensures
    (apart_given c.args.state.now c.in_ok-apart.apart c.args.x c.args.y _ _ _ _ _ _ _ _ _ c.new-cells.ensures.items
    c.in_ok-put_state.ensures c.from_vec-cells.ensures c.as_slice-list.ensures c.eq.ensures c.share.ensures c.in_ok-eq.ensures
    c.remove_pair.ensures c.in_ok-share.ensures c.in_ok-apart.ensures)
