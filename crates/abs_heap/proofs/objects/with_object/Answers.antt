use Rattle.std.proofs.Common.{ap}
use Rattle.std.proofs.lemmas.Result.{IfOk-weaker}
use Rattle.abs_cells.specs.declared.cells.Cell.TheVariants.{Obj}
use Rattle.abs_heap.proofs.Giving.{given_as, over_state}
use Rattle.abs_heap.proofs.Placing.{over_more, over_cell}
use Rattle.abs_heap.proofs.objects.with_object.Goals as goal

pub returns : goal.returns
returns g c = IfOk-weaker c.child_of.result _ _
    (λ child is. given_as c.args.state.now.frames c.args.state.now.throwing _ _ _ _ child
    (over_state c.args.state.now _ _ _ _ _ c.new-cells.ensures.items
    (over_more _ _ _ _ _ (over_cell _ _ _ _ _ (ap (Obj c.args.class) c.in_ok-from_slice.ensures) c.in_ok-put_cell.ensures)
    c.in_ok-put_zeros.ensures) c.in_ok-put_state.ensures c.from_vec.ensures) is) c.child_of.ensures
