use Rattle.std.proofs.Common.{◌∙◌, ◌+◌, sym, ap, get_or, false, List, Bool}
use Rattle.number_graphs.specs.Marking.{marked_count}
use Rattle.number_graphs.proofs.Counting.{one_ranked, ranks_fall, cycle_found}
use Rattle.number_graphs.proofs.ranking.exact_ranks.Goals as goal

pub loop-place-preserved : goal.loop-place-preserved
loop-place-preserved c =
    one_ranked c.args.graph.now c.loop-place.ranks c.push.new.self c.loop-place.place c.rank_of.result c.in_ok-marks.marks.items
    c.loop-place-test.true c.loop-place.invariant c.in_ok-marks.ensures
    (ap (λ (l : List Bool). get_or l c.loop-place.place false) (sym c.as_slice.ensures.value) ∙ sym c.is_marked.ensures
    ∙ c.if-is_marked.false)
    (c.rank_of.ensures ∙ ap (λ (l : List Bool). marked_count l + 1) c.as_slice-in-loop-place.ensures.value)
    c.in_ok-push.ensures.items

pub returns-then-is_marked : goal.returns-then-is_marked
returns-then-is_marked c =
    cycle_found c.args.graph.now c.loop-place.ranks c.loop-place.place c.in_ok-marks.marks.items c.loop-place.invariant
    c.in_ok-marks.ensures
    (ap (λ (l : List Bool). get_or l c.loop-place.place false) (sym c.as_slice.ensures.value) ∙ sym c.is_marked.ensures
    ∙ c.if-is_marked.true)

pub returns : goal.returns
returns c = ranks_fall c.args.graph.now c.loop-place.ranks c.loop-place.place c.loop-place-test.false c.loop-place.auto.place-end
    c.loop-place.invariant
