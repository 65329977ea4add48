use Rattle.std.proofs.Common.{◌∙◌, ℕ, [], slice_get, reverse, ap}
use Rattle.std.specs.Option.{option_map_or}
use Rattle.class_program.specs.declared.program.Method.{Method}
use Rattle.class_program.specs.Views.{program_of}
use Rattle.abs_turns.specs.Turns.{Here}
use Rattle.abs_plans.proofs.MadePlans.{made_is}
use Rattle.abs_plans.proofs.PlannedStates.{in_throwing}
use Rattle.abs_plans.proofs.planning.plan_thrown.Goals as goal

pub returns : goal.returns
returns g c = λ typing.
    made_is _ _ c.thrown.result
    (in_throwing (program_of c.args.program.now) typing c.args.state.now c.args.frame.now (reverse c.args.below.now) c.args.x
    c.new-spot.result c.table_of.result.now (ap (λ (h : Here). h.program) c.new-spot.ensures)
    (ap (λ (h : Here). h.state) c.new-spot.ensures) (ap (λ (h : Here). h.frame) c.new-spot.ensures)
    (ap (λ (h : Here). h.below) c.new-spot.ensures)
    (c.table_of.ensures ∙ ap (λ (n : ℕ). option_map_or (λ (m : Method). m.table) (slice_get c.args.program.now.methods n) [])
    c.method.ensures))
    c.thrown.ensures
