use Rattle.std.proofs.Common.{◌≡◌, ◌++◌, ap, sym, ◌∙◌, append-nil}
use Rattle.std.specs.Option.{option_to_list}
use Rattle.class_world.specs.World.{class_of}
use Rattle.class_world.proofs.Maps.{filter_step}
use Rattle.class_world.proofs.named.Named.numbers_of.Goals as goal
use Rattle.class_world.proofs.named.Named.numbers_of.Goals.{in-Some+in_ok-push, in_default}

pub loop-name-preserved : goal.loop-name-preserved
loop-name-preserved c =
    let more : c.match-number_of.found ≡ c.loop-name.found ++ option_to_list c.number_of.result =
    elim c.match-number_of.branch [
      | in-Some+in_ok-push w ↦ w.found-is ∙ w.in_ok-push.ensures.items ∙ ap (λ o. c.loop-name.found ++ option_to_list o) (sym w.in-Some.is)
      | in_default w ↦ w.found-is ∙ sym (append-nil c.loop-name.found)
          ∙ ap (λ o. c.loop-name.found ++ option_to_list o) (sym w.in_default.is)
    ] in
    filter_step (λ name. class_of c.args.self.now.classes name.now) c.args.wanted.now c.loop-name.name-index _ c.loop-name.found
    c.match-number_of.found c.number_of.result _ c.loop-name.invariant c.loop-name-test.true c.number_of.ensures more
