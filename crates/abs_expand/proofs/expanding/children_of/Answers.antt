use Rattle.std.proofs.Common.{rules}
use Rattle.class_program.specs.Views.{program_of}
use Rattle.class_program.specs.class_world.WorldTypes.{types_of}
use Rattle.term_graph.specs.Graphs.{GraphChild}
use Rattle.abs_plans.specs.abs_turns.declared.plans.Turn.{Turn}
use Rattle.abs_plans.specs.abs_turns.PlansSeen.{turn_seen}
use Rattle.abs_expand.specs.inner.Building.{IsChildOf}
use Rattle.abs_expand.proofs.ZipLists.{pushed}
use Rattle.abs_expand.proofs.expanding.children_of.Goals as goal

pub loop-turn-preserved : goal.loop-turn-preserved
loop-turn-preserved g c =
    let R : Turn → GraphChild → Type 0 = λ turn child. IsChildOf (types_of (program_of c.args.program.now).world) c.args.state.now
    (turn_seen turn) child in
    record {
      sound = search rules;
      room = search rules;
      done = pushed R c.loop-turn.yielded c.loop-turn.children _ c.in-Some.turn c.in_ok-child.field-0 c.in_ok-push.ensures.items
          c.loop-turn.invariant.done c.in_ok-child.ensures.child;
    }
