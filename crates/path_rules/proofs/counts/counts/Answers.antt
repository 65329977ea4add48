use Rattle.std.proofs.Common.{◌∙◌, List, ℕ, ap, sym, map, arith, refl}
use Rattle.path_rules.specs.inner.Ways.{count_row}
use Rattle.path_rules.proofs.Counted.{one_round, settled, enough}
use Rattle.path_rules.proofs.counts.counts.Goals as goal

pub returns-then-are_same : goal.returns-then-are_same
returns-then-are_same c =
    settled c.args.lists.now c.args.marks.now c.args.ranks.now c.loop-round.counts c.in_ok-next.next c.requires
    (c.in_ok-next.ensures ∙ ap (λ (l : List ℕ). map (count_row c.args.marks.now l) c.args.lists.now) c.as_slice.ensures)
    (sym c.as_slice-in-loop-round.ensures ∙ (c.if-are_same.ensures refl ∙ c.as_slice-in-loop-round-2.ensures))

pub loop-round-preserved : goal.loop-round-preserved
loop-round-preserved c =
    one_round c.args.lists.now c.args.marks.now c.args.ranks.now c.loop-round.counts c.in_ok-next.next c.loop-round._round c.requires
    (c.in_ok-next.ensures ∙ ap (λ (l : List ℕ). map (count_row c.args.marks.now l) c.args.lists.now) c.as_slice.ensures)
    c.loop-round.invariant

pub returns : goal.returns
returns c =
    let end = c.above-round-end.ensures in
    let past = c.loop-round-test.false in
    enough c.args.lists.now c.args.marks.now c.args.ranks.now c.loop-round.counts c.loop-round._round (omega (arith, end, past))
    c.loop-round.invariant
