use Rattle.std.proofs.Common.{◌∙◌, ◌∷◌, ℕ, List, reverse, take, drop, ap}
use Rattle.abs_cells.specs.AbstractStates.{AbstractFrame}
use Rattle.abs_turns.specs.Turns.{moves, with_stack}
use Rattle.abs_turns.specs.Table.{one_step, called_frame}
use Rattle.abs_plans.proofs.MadePlans.{made_is}
use Rattle.abs_plans.proofs.calls.runs.Goals as goal

pub returns : goal.returns
returns g c =
    made_is _ _ c.begins.result
    (ap (λ (f : AbstractFrame). one_step
    (moves (f ∷ with_stack c.args.spot.now c.args.spot.now.frame.pc (drop c.args.count c.args.spot.now.frame.stack))))
    (c.in_ok-called.ensures
    ∙ ap (λ (s : List ℕ). called_frame c.args.number c.args.method.now (reverse (take c.args.count s))) c.requires))
    c.begins.ensures
