use Rattle.class_program.specs.Views.{program_of}
use Rattle.class_program.specs.class_world.WorldTypes.{types_of}
use Rattle.abs_plans.specs.abs_turns.PlansSeen.{turn_seen}
use Rattle.abs_expand.proofs.TurnChildren.{turn_child}
use Rattle.abs_expand.proofs.children.child.Goals as goal

pub returns-clause-child : goal.returns-clause-child
returns-clause-child g c =
    turn_child (types_of (program_of c.args.program.now).world) c.args.state.now (turn_seen c.args.turn) c.as_slice.result.now
    c.in_ok-whole.whole c.lean.result c.in_ok-whole.id _ c.new.result
    c.as_slice.ensures c.in_ok-whole.ensures.is c.lean.ensures c.in_ok-link_rows.ensures c.new.ensures
