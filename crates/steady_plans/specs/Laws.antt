-- What the plans of all states have in common.
use Rattle.std.specs.Prelude.{ℕ}
use Rattle.abs_cells.specs.AbstractStates.{AbstractState}
use Rattle.class_program.specs.Programs.{Program}
use Rattle.abs_plans.specs.FrameTypesTables.{CodeTypes}
use Rattle.abs_plans.specs.Planning.{plan_of}
use Rattle.steady_plans.specs.Steps.{AreSteady}

-- In the plan of every program and state a step that makes no id sends none anywhere, and its rows name none.
abbrev pub PlansAreSteady : Type 0
PlansAreSteady = (p : Program) (typing : ℕ → CodeTypes) (state : AbstractState) → AreSteady (plan_of p typing state)
