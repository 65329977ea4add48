use Rattle.jvm_values.specs.TypedHeaps.{world_types}
use Rattle.abs_heap.proofs.FieldPairs.{instance_given}
use Rattle.abs_heap.proofs.instances.with_instance.Goals as goal
use Rattle.std.proofs.lemmas.Result.{IfOk-weaker}

pub returns : goal.returns
returns g c = IfOk-weaker c.whole.result _ _
    (λ child is. instance_given (world_types (g.T.Types.sub c.args.types.now) (g.T.Types.erase c.args.types.now)
    (g.T.Types.classes c.args.types.now) (g.T.Types.fields c.args.types.now) (g.T.Types.can_be_made c.args.types.now))
    c.args.state.now c.args.x c.args.shape c.args.class c.args.ids.now _ _ _ _ _ _ _ _ _ _ _ _ _ _ _ _ c.new-cells.ensures.items
    c.in_ok-from_slice.ensures c.in_ok-put_cell.ensures c.in_ok-put_fields.ensures c.in_ok-put_state.ensures
    c.from_vec-cells.ensures c.as_slice-list.ensures c.eq.ensures c.share.ensures c.in_ok-eq.ensures c.in_ok-share.ensures
    c.reference_ids-fields.ensures c.field_partners-others.ensures c.in_ok-put_compatible_between.ensures
    c.in_ok-put_between.ensures child c.fields-slots.ensures is) c.whole.ensures
