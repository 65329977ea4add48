use Rattle.std.proofs.Common.{sym, ◌∙◌}
use Rattle.abs_heap.proofs.Merging.{pair_taken, no_pair_taken}
use Rattle.abs_heap.proofs.equals.remove_pair.Goals as goal

pub returns-then-is_some : goal.returns-then-is_some
returns-then-is_some g c = pair_taken c.args.a c.args.b (g.P.Pairs.pairs c.args.pairs.now) (g.P.Pairs.pairs c.remove.new.self)
    c.nth.ensures.rising c.remove.ensures

pub returns-else-is_some : goal.returns-else-is_some
returns-else-is_some g c = no_pair_taken c.args.a c.args.b (g.P.Pairs.pairs c.args.pairs.now) c.nth.result c.nth.ensures.value
    (sym c.is_some.ensures ∙ c.if-is_some.false)
