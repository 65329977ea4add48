use Rattle.std.proofs.Common.{◌≡◌, ◌++◌, ◌∷◌, [], cond, ap, sym, ◌∙◌}
use Rattle.class_world.specs.Worlds.{classes_of}
use Rattle.class_world.specs.Select.{is_receiver}
use Rattle.class_world.proofs.Counting.{filter_more}
use Rattle.class_program.proofs.receivers.receivers.Goals as goal
use Rattle.class_program.proofs.receivers.receivers.Goals.{then-is_receiver+in_ok-push, else-is_receiver}

pub loop-class-preserved : goal.loop-class-preserved
loop-class-preserved c =
    let more : c.if-is_receiver.found ≡ cond c.is_receiver.result (c.loop-class.found ++ c.loop-class.class ∷ []) c.loop-class.found =
    elim c.if-is_receiver.branch [
      | then-is_receiver+in_ok-push w ↦ w.found-is ∙ w.in_ok-push.ensures.items
          ∙ ap (λ b. cond b (c.loop-class.found ++ c.loop-class.class ∷ []) c.loop-class.found) (sym w.if-is_receiver.true)
      | else-is_receiver w ↦ w.found-is ∙ ap (λ b. cond b (c.loop-class.found ++ c.loop-class.class ∷ []) c.loop-class.found)
          (sym w.if-is_receiver.false)
    ] in
    filter_more (is_receiver (classes_of c.args.world.now) c.args.named) c.loop-class.found c.if-is_receiver.found
    c.loop-class.class c.is_receiver.result c.loop-class.invariant c.is_receiver.ensures more
