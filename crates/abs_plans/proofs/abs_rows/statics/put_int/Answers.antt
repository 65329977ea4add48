use Rattle.std.proofs.Common.{◌≡◌, IfOk, [], ◌∷◌, ap, sym, subst, ◌∙◌}
use Rattle.abs_turns.specs.Plans.{in_bottom, steps}
use Rattle.abs_turns.specs.Turns.{with_stack, moves}
use Rattle.abs_turns.specs.Table.{bottom_with, one_step}
use Rattle.abs_turns.specs.PlansSeen.{plan_seen}
use Rattle.abs_turns.specs.Stops.{narrowed_to}
use Rattle.abs_plans.proofs.Narrowed.{narrowed_steps}
use Rattle.abs_plans.proofs.abs_rows.statics.put_int.Goals as goal

pub returns-in_ok-turn-in-Some : goal.returns-in_ok-turn-in-Some
returns-in_ok-turn-in-Some g c =
    let here = c.args.spot.now in
    let frames = with_stack here here.next c.args.stack.now.0 in
    let kept = moves (bottom_with c.args.n c.args.x frames) in
    let narrowed = sym (ap (narrowed_to c.args.kind) c.interval_of.ensures) ∙ sym c.narrowed_to.ensures ∙ c.in-Some.is in
    let same = narrowed_steps here c.args.kind c.args.x kept frames (in_bottom c.args.n) c.in-Some.ints narrowed in
    subst (λ p. IfOk c.one_step.result (λ plan. plan_seen plan ≡ p)) (ap one_step (c.in_ok-turn-in-Some.ensures kept)
    ∙ sym (ap steps same)) c.one_step.ensures
