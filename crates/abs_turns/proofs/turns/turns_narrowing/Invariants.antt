use Rattle.std.proofs.Common.{◌≡◌, ◌++◌, ◌∷◌, map, length}
use Rattle.abs_ints.specs.declared.cases.IntCase.{IntCase}
use Rattle.abs_turns.specs.Plans.{on_stack}
use Rattle.abs_turns.specs.Turns.{with_stack, goes_on, turn_narrowing, turns_narrowing}
use Rattle.abs_turns.specs.PlansSeen.{turn_seen}
use Rattle.abs_turns.proofs.turns.turns_narrowing.Given as goal

abbrev pub invariant-loop-case : goal.invariant-loop-case
invariant-loop-case g l = map turn_seen l.turns ++ map
    (λ (case : IntCase). turn_narrowing (goes_on l.spot l.spot.next (l.x ∷ l.stack.0)) (with_stack l.spot l.spot.next l.stack.0)
    on_stack case.result) l.cases ≡ turns_narrowing l.spot l.fn.kind l.x (goes_on l.spot l.spot.next (l.x ∷ l.stack.0))
    (with_stack l.spot l.spot.next l.stack.0) on_stack

abbrev pub decreases-loop-case : goal.decreases-loop-case
decreases-loop-case g l = length l.cases
