use Rattle.std.proofs.Common.{◌∙◌, ap, length, subst}
use Rattle.descent.specs.Steps.{weak_ones}
use Rattle.chain_proofs.specs.inner.Sets.{RanksOr}
use Rattle.chain_proofs.proofs.Closing.{later}
use Rattle.chain_proofs.proofs.Spending.{rank_turns, room_at, set_below}
use Rattle.chain_proofs.proofs.proving.ranked.Goals as goal

pub hand-rest-requires-clause-later : goal.hand-rest-requires-clause-later
hand-rest-requires-clause-later g c = later c.args.sets.now.given.items c.args.number c.args.sets.now.next c.args.set.now
    c.args.sets.now.dealt c.requires.given

pub hand-rest-requires-clause-room : goal.hand-rest-requires-clause-room
hand-rest-requires-clause-room g c = room_at c.args.sets.now.given.items c.args.number c.args.sets.now.next c.args.set.now
    c.args.sets.now.dealt c.requires.given c.requires.room

pub left_rules-requires : goal.left_rules-requires
left_rules-requires g c = set_below (length c.args.rules.now) c.args.set.now c.requires.is_set

pub returns-in_ok-weak-in-Some : goal.returns-in_ok-weak-in-Some
returns-in_ok-weak-in-Some g c = rank_turns c.args.rules.now c.args.number c.args.set.now c.args.sets.now.given.items
    c.hand-rest.new.self.given.items c.in-Some.step c.hand-rest.result c.in_ok-weak-in-Some.weak c.requires.given c.requires.sets
    (subst (RanksOr g.F.Forms.none c.args.rules.now c.args.set.now c.args.own.now) c.in-Some.is c.in_ok-step.ensures)
    (c.in_ok-weak-in-Some.ensures ∙ ap weak_ones c.as_slice.ensures) c.hand-rest.ensures
