use Rattle.std.proofs.Common.{sym, arith}
use Rattle.abs_heap.proofs.PairGains.{place_low, rising_at}
use Rattle.abs_heap.proofs.After.{beside_next, beside_all}
use Rattle.abs_heap.proofs.rewriting.ids_beside.Goals as goal

pub put_beside-requires : goal.put_beside-requires
put_beside-requires c =
    let h = rising_at c.args.pairs.now c.loop-a.n (c.in-Some.a, c.in-Some.b) c.requires (sym c.in-Some.ensures) in
    (omega (arith, h.0, h.1), h.1)

pub overflow_add-n : goal.overflow_add-n
overflow_add-n c = let h = place_low c.args.pairs.now c.loop-a.n _ c.requires (sym c.in-Some.ensures) in omega (arith, h.1)

pub loop-a-smaller : goal.loop-a-smaller
loop-a-smaller c = let h = place_low c.args.pairs.now c.loop-a.n _ c.requires (sym c.in-Some.ensures) in omega (arith, h.0)

pub loop-a-preserved : goal.loop-a-preserved
loop-a-preserved c m =
    beside_next c.args.others.now c.args.pairs.now c.loop-a.n (c.in-Some.a, c.in-Some.b) m _ _ (sym c.in-Some.ensures)
    (c.loop-a.invariant m) (c.put_beside.ensures m)

pub returns : goal.returns
returns c m =
    beside_all c.args.others.now c.args.pairs.now c.loop-a.n m _ c.requires (sym c.in_default.ensures) (c.loop-a.invariant m)
