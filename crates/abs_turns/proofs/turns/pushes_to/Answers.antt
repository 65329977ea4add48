use Rattle.std.proofs.Common.{ap}
use Rattle.abs_turns.specs.Plans.{Turn}
use Rattle.abs_turns.specs.PlansSeen.{goal_seen}
use Rattle.abs_turns.proofs.turns.pushes_to.Goals as goal

pub returns : goal.returns
returns g c kept = ap (λ (turn : Turn). record turn { goal = goal_seen c.args.goal }) c.in_ok-turn.ensures
