use Rattle.std.proofs.Common.{[], ◌∷◌, map, reverse}
use Rattle.class_program.specs.class_world.Worlds.{classes_of}
use Rattle.class_program.specs.class_world.WorldTypes.{types_of}
use Rattle.code_verify.specs.Operands.{want_of}
use Rattle.code_verify.proofs.Taken.{none_taken, first_taken}
use Rattle.code_verify.proofs.rows.take_call.Goals as goal

pub returns-then-not-arguments-clause-stack : goal.returns-then-not-arguments-clause-stack
returns-then-not-arguments-clause-stack c =
    none_taken (types_of (classes_of c.args.world.now)) (map want_of (reverse c.args.params.now)) (c.args.receiver ∷ [])
    c.args.frame.now.stack.0 c.take_arguments-arguments.new.frame.stack.0 c.take_arguments-arguments.result
    c.if-not-arguments.true c.take_arguments-arguments.ensures.stack

pub returns-clause-stack : goal.returns-clause-stack
returns-clause-stack c =
    first_taken (types_of (classes_of c.args.world.now)) (map want_of (reverse c.args.params.now)) (c.args.receiver ∷ [])
    c.args.frame.now.stack.0 c.take_arguments-arguments.new.frame.stack.0 c.take.new.frame.stack.0
    c.take_arguments-arguments.result c.take.result c.if-not-arguments.false c.take_arguments-arguments.ensures.stack
    c.take.ensures.stack
