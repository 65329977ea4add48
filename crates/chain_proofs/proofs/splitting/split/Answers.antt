use Rattle.std.proofs.Common.{ℕ, List, Some, false, length, slice_get, ◌≡◌, ◌<◌, ◌∙◌, ap, sym, subst}
use Rattle.std.specs.List.{All}
use Rattle.std.proofs.lemmas.Option.{slice_get-get_or}
use Rattle.chain_proofs.specs.inner.Sets.{AreAt, IsHanded, is_alone}
use Rattle.chain_proofs.proofs.Charging.{class_within}
use Rattle.chain_proofs.proofs.Dividing.{as_long}
use Rattle.chain_proofs.proofs.Parting.{divided_first, divided_more, split_turns, still_later, still_room}
use Rattle.chain_proofs.proofs.Spending.{set_given}
use Rattle.chain_proofs.proofs.splitting.split.Goals as goal

pub loop-class-init : goal.loop-class-init
loop-class-init c = divided_first (length c.args.rules.now) c.args.rules.now c.args.own.now c.args.set.now c.args.classes.now
    c.args.number c.args.sets.now.given.items c.in_ok-parts.parts c.in_ok-steps.steps c.in_ok-parts.ensures c.in_ok-steps.ensures
    c.requires.own c.requires.classes c.requires.apart c.requires.given c.requires.sets

pub part_of-requires : goal.part_of-requires
part_of-requires c =
    let at : slice_get c.args.classes.now c.loop-class.class-index ≡ Some c.class-item.result = slice_get-get_or c.args.classes.now
    c.loop-class.class-index c.class-item.result c.loop-class-test.true ∙ ap Some (sym c.class-item.is) in
    subst (λ (class : List ℕ). All (λ (n : ℕ). n < length c.args.set.now) class) (sym c.as_slice.ensures)
    (class_within c.args.own.now c.args.classes.now c.loop-class.class-index (length c.args.set.now) c.class-item.result
    c.requires.classes at (as_long c.args.rules.now c.args.set.now c.args.own.now c.requires.own))

pub step_of-requires-clause-later : goal.step_of-requires-clause-later
step_of-requires-clause-later c = still_later (length c.args.rules.now) c.args.own.now c.args.set.now c.args.classes.now
    c.loop-class.class-index c.args.number c.loop-class.sets.next c.args.sets.now.given.items c.loop-class.sets.given.items
    c.loop-class.parts c.loop-class.steps c.requires.given c.loop-class.invariant c.loop-class.sets.dealt

pub step_of-requires-clause-room : goal.step_of-requires-clause-room
step_of-requires-clause-room c =
    let at : slice_get c.args.classes.now c.loop-class.class-index ≡ Some c.class-item.result = slice_get-get_or c.args.classes.now
    c.loop-class.class-index c.class-item.result c.loop-class-test.true ∙ ap Some (sym c.class-item.is) in
    λ alone. still_room (length c.args.rules.now) c.args.own.now c.args.set.now c.args.classes.now c.loop-class.class-index c.args.number
    c.loop-class.sets.next c.args.sets.now.given.items c.loop-class.sets.given.items c.loop-class.parts c.loop-class.steps
    c.class-item.result c.requires.given c.loop-class.invariant c.loop-class.sets.dealt c.requires.room at
    (subst (λ (class : List ℕ). is_alone c.args.own.now class ≡ false) c.as_slice-in-loop-class.ensures alone)

pub loop-class-preserved : goal.loop-class-preserved
loop-class-preserved c =
    let at : slice_get c.args.classes.now c.loop-class.class-index ≡ Some c.class-item.result = slice_get-get_or c.args.classes.now
    c.loop-class.class-index c.class-item.result c.loop-class-test.true ∙ ap Some (sym c.class-item.is) in
    divided_more (length c.args.rules.now) c.args.rules.now c.args.own.now c.args.set.now c.args.classes.now c.loop-class.class-index
    c.args.number c.args.sets.now.given.items c.loop-class.sets.given.items c.step_of.new.sets.given.items c.loop-class.parts _
    c.loop-class.steps _ c.class-item.result c.in_ok-part.part c.in_ok-step.step c.requires.own
    (set_given (length c.args.rules.now) c.args.sets.now.given.items c.args.number c.args.set.now c.requires.sets c.requires.given)
    at c.loop-class.invariant
    (subst (λ (class : List ℕ). AreAt c.args.set.now class c.in_ok-part.part) c.as_slice.ensures c.in_ok-part.ensures)
    (subst (λ (class : List ℕ). IsHanded c.args.own.now c.args.set.now class c.in_ok-part.part c.args.number
    c.loop-class.sets.given.items c.in_ok-step.step c.step_of.new.sets.given.items) c.as_slice-in-loop-class.ensures
    (subst (λ (part : List ℕ). IsHanded c.args.own.now c.args.set.now c.as_slice-in-loop-class.result.now part c.args.number
    c.loop-class.sets.given.items c.in_ok-step.step c.step_of.new.sets.given.items) c.as_slice-in-loop-class-2.ensures
    c.in_ok-step.ensures))
    c.in_ok-push.ensures.items c.in_ok-push-2.ensures.items

pub returns : goal.returns
returns c = split_turns c.args.rules.now c.args.set.now c.args.own.now c.args.number c.loop-class.class-index
    c.args.sets.now.given.items c.loop-class.sets.given.items c.args.classes.now c.loop-class.parts c.loop-class.steps c.requires.own
    c.requires.rise c.requires.classes c.requires.given c.loop-class-test.false c.loop-class.invariant
