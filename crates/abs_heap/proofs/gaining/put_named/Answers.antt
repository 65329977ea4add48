use Rattle.std.proofs.Common.{sym, arith}
use Rattle.abs_heap.specs.Names.{name_in}
use Rattle.abs_heap.proofs.PairGains.{place_low, named_none, named_next, named_all, named_this}
use Rattle.abs_heap.proofs.gaining.put_named.Goals as goal

pub overflow_add-n : goal.overflow_add-n
overflow_add-n g c = let h = place_low c.args.old.now c.loop-a.n _ c.requires.pairs (sym c.in-Some.ensures) in omega (arith, h.1)

pub loop-a-init : goal.loop-a-init
loop-a-init g c = named_none c.args.cells.now (name_in c.args.names.now) (g.P.Pairs.pairs c.args.pairs.now)

pub loop-a-smaller : goal.loop-a-smaller
loop-a-smaller g c = let h = place_low c.args.old.now c.loop-a.n _ c.requires.pairs (sym c.in-Some.ensures) in omega (arith, h.0)

pub loop-a-preserved : goal.loop-a-preserved
loop-a-preserved g c =
    named_next c.args.cells.now (name_in c.args.names.now) c.args.old.now c.loop-a.n (c.in-Some.a, c.in-Some.b)
    (g.P.Pairs.pairs c.args.pairs.now) (g.P.Pairs.pairs c.loop-a.pairs) (g.P.Pairs.pairs c.put_pair.new.pairs) c.requires.pairs
    (sym c.in-Some.ensures) c.loop-a.invariant
    (named_this c.args.cells.now _ _ _ _ _ _ c.name_of.ensures c.name_of-in-Some.ensures c.in_ok-put_pair.ensures)

pub returns : goal.returns
returns g c =
    named_all c.args.cells.now (name_in c.args.names.now) c.args.old.now c.loop-a.n (g.P.Pairs.pairs c.args.pairs.now)
    (g.P.Pairs.pairs c.loop-a.pairs) (sym c.in_default.ensures) c.loop-a.invariant
