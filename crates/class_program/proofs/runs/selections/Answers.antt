use Rattle.std.proofs.Common.{◌≡◌, ◌++◌, ap, sym, ◌∙◌, append-nil}
use Rattle.std.specs.Option.{option_to_list}
use Rattle.class_world.specs.Worlds.{classes_of}
use Rattle.class_program.specs.Runs.{selected_body}
use Rattle.class_world.proofs.Maps.{filter_step}
use Rattle.class_program.proofs.runs.selections.Goals as goal
use Rattle.class_program.proofs.runs.selections.Goals.{in-Some+in_ok-push, in_default}

pub loop-class-preserved : goal.loop-class-preserved
loop-class-preserved c =
    let more : c.match-selected_body.found ≡ c.loop-class.found ++ option_to_list c.selected_body.result =
    elim c.match-selected_body.branch [
      | in-Some+in_ok-push w ↦ w.found-is ∙ w.in_ok-push.ensures.items ∙ ap (λ o. c.loop-class.found ++ option_to_list o)
          (sym w.in-Some.is)
      | in_default w ↦ w.found-is ∙ sym (append-nil c.loop-class.found) ∙ ap (λ o. c.loop-class.found ++ option_to_list o)
          (sym w.in_default.is)
    ] in
    filter_step (selected_body (classes_of c.args.world.now) c.args.method.now.name.now c.args.method.now.desc.now)
    c.as_slice-class-items.result.now c.loop-class.class-index _ c.loop-class.found c.match-selected_body.found
    c.selected_body.result _ c.loop-class.invariant c.loop-class-test.true c.selected_body.ensures more
