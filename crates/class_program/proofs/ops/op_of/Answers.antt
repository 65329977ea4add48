use Rattle.std.proofs.Common.{ap}
use Rattle.class_world.specs.Worlds.{classes_of}
use Rattle.class_program.proofs.Refused.{pool_at, op_said, op_refused}
use Rattle.class_program.proofs.ops.op_of.Goals as goal

pub returns-in-Ok-clause-op : goal.returns-in-Ok-clause-op
returns-in-Ok-clause-op c =
    let world = (classes_of c.args.world.now) in
    op_said world c.args.class c.args.name.now c.args.pc c.args.insn _ _
    (pool_at world c.args.class c.view-view.result.now c.view.inside.pool c.view-view.ensures (ap (λ x. x.pool) c.view.view_is))
    c.in-Ok.ensures.op

pub returns-in_ok-fault_at-in-Err-clause-op : goal.returns-in_ok-fault_at-in-Err-clause-op
returns-in_ok-fault_at-in-Err-clause-op c =
    let world = (classes_of c.args.world.now) in
    op_refused world c.args.class c.args.name.now c.args.pc c.args.insn _ _ _
    (pool_at world c.args.class c.view-view.result.now c.view.inside.pool c.view-view.ensures (ap (λ x. x.pool) c.view.view_is))
    c.in-Err.ensures.op c.in_ok-fault_at-in-Err.ensures
