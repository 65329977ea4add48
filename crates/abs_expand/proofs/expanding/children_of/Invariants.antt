use Rattle.std.proofs.Common.{length}
use Rattle.std.specs.List.{AllByRecursion, AllZip}
use Rattle.std.specs.Vec.Iter.{into_iter_items}
use Rattle.class_program.specs.Views.{program_of}
use Rattle.class_program.specs.class_world.WorldTypes.{types_of}
use Rattle.abs_plans.specs.abs_turns.GoodPlans.{IsGoodTurn}
use Rattle.abs_plans.specs.abs_turns.PlansSeen.{turn_seen}
use Rattle.abs_expand.specs.inner.Building.{IsChildOf}
use Rattle.abs_expand.proofs.TurnChildren.{HasRoom}
use Rattle.abs_expand.proofs.expanding.children_of.Given as goal

abbrev pub invariant-loop-turn : goal.invariant-loop-turn
invariant-loop-turn g l = record {
  sound : AllByRecursion (λ turn. IsGoodTurn (types_of (program_of l.program).world) l.state (turn_seen turn))
      (into_iter_items l.turn-iterator);
  room : AllByRecursion (HasRoom (types_of (program_of l.program).world) (length l.state.cells)) (into_iter_items l.turn-iterator);
  done : AllZip (λ turn child. IsChildOf (types_of (program_of l.program).world) l.state (turn_seen turn) child) l.yielded l.children;
}
