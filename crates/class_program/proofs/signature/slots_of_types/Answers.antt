use Rattle.std.proofs.Common.{◌≡◌, ◌++◌, ap, sym, ◌∙◌, append-nil, arith}
use Rattle.std.proofs.lemmas.Grind.{common_steps}
use Rattle.class_world.specs.Worlds.{classes_of}
use Rattle.std.specs.Option.{option_to_list}
use Rattle.class_world.specs.Descriptors.{meaning_of, known_slot}
use Rattle.class_world.proofs.Maps.{filter_step}
use Rattle.class_program.proofs.signature.slots_of_types.Goals as goal
use Rattle.class_program.proofs.signature.slots_of_types.Goals.{in-Some+in_ok-push, in_default}

pub loop-text-preserved : goal.loop-text-preserved
loop-text-preserved c =
    let more : c.match-known_slot.slots ≡ c.loop-text.slots ++ option_to_list c.known_slot.result =
    elim c.match-known_slot.branch [
      | in-Some+in_ok-push w ↦ w.slots-is ∙ w.in_ok-push.ensures.items ∙ ap (λ o. c.loop-text.slots ++ option_to_list o) (sym w.in-Some.is)
      | in_default w ↦ w.slots-is ∙ sym (append-nil c.loop-text.slots)
          ∙ ap (λ o. c.loop-text.slots ++ option_to_list o) (sym w.in_default.is)
    ] in
    filter_step (λ text. known_slot (meaning_of (classes_of c.args.world.now) text)) c.args.types.now c.loop-text.text-index
    c.text-item.result c.loop-text.slots c.match-known_slot.slots c.known_slot.result _ c.loop-text.invariant
    c.loop-text-test.true (c.known_slot.ensures ∙ ap (λ text. known_slot (meaning_of (classes_of c.args.world.now) text))
    c.text-item.is) more

pub returns : goal.returns
returns c = grind (arith, common_steps, c.loop-text.invariant)
