use Rattle.std.proofs.Common.{◌≡◌, IfOk, [], ◌∷◌, slice_set, ap, sym, subst, ◌∙◌}
use Rattle.abs_cells.specs.declared.cells.Cell.TheVariants as cells
use Rattle.abs_turns.specs.Plans.{in_field, steps}
use Rattle.abs_turns.specs.Turns.{with_stack, moves}
use Rattle.abs_turns.specs.Table.{one_step}
use Rattle.abs_turns.specs.PlansSeen.{plan_seen}
use Rattle.abs_turns.specs.Stops.{narrowed_to}
use Rattle.abs_plans.proofs.Narrowed.{narrowed_steps}
use Rattle.abs_plans.proofs.abs_rows.fields.put_int.Goals as goal

pub returns-in_ok-turn-in-Some : goal.returns-in_ok-turn-in-Some
returns-in_ok-turn-in-Some g c =
    let here = c.args.spot.now in
    let frames = with_stack here here.next c.args.stack.now.0 in
    let kept = record (moves frames) {
      changed = (c.args.k, cells.Obj c.args.class (slice_set c.args.ids.now c.args.place c.args.x))
          ∷ [];
    } in
    let narrowed = sym (ap (narrowed_to c.args.kind) c.interval_of.ensures) ∙ sym c.narrowed_to.ensures ∙ c.in-Some.is in
    let same = narrowed_steps here c.args.kind c.args.x kept frames (in_field c.args.k c.args.place) c.in-Some.ints narrowed in
    subst (λ p. IfOk c.one_step-in-Some.result (λ plan. plan_seen plan ≡ p)) (ap one_step (c.in_ok-turn-in-Some.ensures kept)
    ∙ sym (ap steps same)) c.one_step-in-Some.ensures
