use Rattle.class_world.specs.Worlds.{classes_of}
use Rattle.class_program.proofs.Calls.{start_none, start_over, start_class}
use Rattle.class_program.proofs.call_operand.special_start.Goals as goal

pub returns-in_default : goal.returns-in_default
returns-in_default c = start_none (classes_of c.args.world.now) c.args.current c.args.class c.in_default.ensures

pub returns-then-contains : goal.returns-then-contains
returns-then-contains c = start_over (classes_of c.args.world.now) c.args.current c.args.class _ _ _ _ c.in-Some.ensures
    c.in_ok-line.ensures c.as_slice.ensures c.contains.ensures.value c.if-contains.true

pub returns : goal.returns
returns c = start_class (classes_of c.args.world.now) c.args.current c.args.class _ _ _ _ c.in-Some.ensures c.in_ok-line.ensures
    c.as_slice.ensures c.contains.ensures.value c.if-contains.false
