use Rattle.class_world.specs.Worlds.{classes_of}
use Rattle.class_program.specs.Signatures.{declared_signature}
use Rattle.class_program.specs.Methods.{own_types}
use Rattle.class_program.proofs.Refused.{fault_said}
use Rattle.class_program.proofs.method.own_types.Goals as goal

pub returns-in_ok-fault_at-in-Err : goal.returns-in_ok-fault_at-in-Err
unfolding own_types
returns-in_ok-fault_at-in-Err c = fault_said c.args.name.now 0 _ (declared_signature (classes_of c.args.world.now) c.args.desc.now)
    _ c.in-Err.ensures c.in_ok-fault_at-in-Err.ensures
