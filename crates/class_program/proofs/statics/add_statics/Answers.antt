use Rattle.std.proofs.Common.{◌≡◌, ◌++◌, ap, sym, ◌∙◌, append-nil}
use Rattle.std.specs.Option.{option_to_list}
use Rattle.class_world.specs.Worlds.{classes_of}
use Rattle.class_program.specs.Statics.{static_at}
use Rattle.class_program.proofs.StaticLists.{statics_step}
use Rattle.class_program.proofs.statics.add_statics.Goals as goal
use Rattle.class_program.proofs.statics.add_statics.Goals.{in-Some+in_ok-push, in_default}

pub loop-index-preserved : goal.loop-index-preserved
loop-index-preserved c =
    let more : c.match-static_at.statics ≡ c.loop-index.statics ++ option_to_list c.static_at.result =
    elim c.match-static_at.branch [
      | in-Some+in_ok-push w ↦ w.statics-is ∙ w.in_ok-push.ensures.items ∙ ap (λ o. c.loop-index.statics ++ option_to_list o)
          (sym w.in-Some.is)
      | in_default w ↦ w.statics-is ∙ sym (append-nil c.loop-index.statics) ∙ ap (λ o. c.loop-index.statics ++ option_to_list o)
          (sym w.in_default.is)
    ] in
    statics_step (static_at (classes_of c.args.world.now) c.args.named.now c.args.class) _ c.loop-index.statics
    c.match-static_at.statics c.loop-index.index c.static_at.result c.loop-index.invariant c.static_at.ensures more
