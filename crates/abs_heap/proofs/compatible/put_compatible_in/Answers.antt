use Rattle.abs_heap.proofs.Choosing.{one_of_set, none_of_set}
use Rattle.abs_heap.proofs.compatible.put_compatible_in.Goals as goal

pub returns-in_ok-put_compatible : goal.returns-in_ok-put_compatible
returns-in_ok-put_compatible g c = one_of_set (g.T.Types.sub c.args.types.now) c.args.cells.now c.args.id c.args.ids.now
    c.args.others.now _ (g.P.Pairs.pairs c.args.pairs.now) (g.P.Pairs.pairs c.put_compatible.new.pairs) c.has.ensures c.if-has.true
    c.in_ok-put_compatible.ensures

pub returns-else-has : goal.returns-else-has
returns-else-has g c = none_of_set (g.T.Types.sub c.args.types.now) c.args.cells.now c.args.id c.args.ids.now c.args.others.now _
    (g.P.Pairs.pairs c.args.pairs.now) c.has.ensures c.if-has.false
