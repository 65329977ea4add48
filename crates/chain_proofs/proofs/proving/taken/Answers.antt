use Rattle.std.proofs.Common.{◌∙◌, length, sym}
use Rattle.chain_proofs.proofs.Spending.{empty_turns, set_below}
use Rattle.chain_proofs.proofs.proving.taken.Goals as goal

pub own_rules-requires : goal.own_rules-requires
own_rules-requires g c = set_below (length c.args.rules.now) c.args.set.now c.requires.is_set

pub ranked-requires-clause-joined : goal.ranked-requires-clause-joined
ranked-requires-clause-joined g c = c.are_joined.ensures.joined c.if-are_joined.true

pub split-requires-clause-apart : goal.split-requires-clause-apart
split-requires-clause-apart g c = c.are_joined.ensures.apart c.if-are_joined.false

pub returns-then-is_empty : goal.returns-then-is_empty
returns-then-is_empty g c = empty_turns c.args.rules.now c.args.number c.args.set.now c.args.sets.now.given.items c.requires.given
    (sym c.is_empty.ensures ∙ c.if-is_empty.true) c.requires.sets
