use Rattle.std.proofs.Common.{◌∙◌, List, ℕ, ap, sym, map, arith, refl}
use Rattle.bound_check.specs.inner.Walking.{next_most}
use Rattle.bound_check.proofs.Walking.{one_round, settled, enough}
use Rattle.bound_check.proofs.walks.most.Goals as goal

pub returns-then-are_same : goal.returns-then-are_same
returns-then-are_same c =
    settled c.args.links.now.nodes c.args.lists.now c.args.marks.now c.args.ends.now c.args.ranks.now c.loop-round.most
    c.in_ok-next.next c.requires.long c.requires.fall
    (c.in_ok-next.ensures ∙ ap (λ (l : List ℕ). next_most c.args.marks.now c.args.ends.now c.args.links.now.nodes l 0 c.args.lists.now)
    c.as_slice.ensures)
    (sym c.as_slice-in-loop-round.ensures ∙ (c.if-are_same.ensures refl ∙ c.as_slice-in-loop-round-2.ensures))

pub loop-round-preserved : goal.loop-round-preserved
loop-round-preserved c =
    one_round c.args.links.now.nodes c.args.lists.now c.args.marks.now c.args.ends.now c.args.ranks.now c.loop-round.most
    c.in_ok-next.next c.loop-round._round c.requires.long c.requires.fall
    (c.in_ok-next.ensures ∙ ap (λ (l : List ℕ). next_most c.args.marks.now c.args.ends.now c.args.links.now.nodes l 0 c.args.lists.now)
    c.as_slice.ensures)
    c.loop-round.invariant

pub returns : goal.returns
returns c =
    let end = c.above-round-end.ensures in
    let past = c.loop-round-test.false in
    enough c.args.links.now.nodes c.args.lists.now c.args.marks.now c.args.ends.now c.args.ranks.now c.loop-round.most
    c.loop-round._round (omega (arith, end, past)) c.loop-round.invariant
