use Rattle.abs_heap.specs.inner.Renaming.{write_of}
use Rattle.abs_heap.proofs.Affected.{affected_there}
use Rattle.abs_heap.proofs.WriteChildren.{write_child}
use Rattle.abs_heap.proofs.writes.written.Goals as goal
use Rattle.std.proofs.lemmas.Result.{IfOk-weaker}

pub names_for-requires-clause-there : goal.names_for-requires-clause-there
names_for-requires-clause-there g c = λ x h. affected_there c.args.state.now c.args.write.now.object x
    ((c.affected_ids-affected.ensures x).0 h)

pub returns : goal.returns
returns g c = IfOk-weaker c.child_with.result _ _
    (λ child is. write_child c.args.state.now (write_of c.args.write.now.object c.args.write.now.field c.args.write.now.value) _ _ _
    c.affected_ids-affected.result child c.affected_ids-affected.ensures c.in_ok-names_for.ensures.names c.is_null.ensures
    c.makes_no_cycle.ensures is) c.child_with.ensures
