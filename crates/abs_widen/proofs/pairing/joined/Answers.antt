use Rattle.std.proofs.Common.{◌<◌, length, arith}
use Rattle.abs_widen.specs.inner.Pairing.{WantsOne, WantsShare}
use Rattle.abs_widen.proofs.Joining.{joined_all}
use Rattle.abs_widen.proofs.Wanting.{one_within, share_within}
use Rattle.abs_widen.proofs.pairing.joined.Goals as goal

pub returns : goal.returns
returns g c = (
  joined_all (WantsOne c.args.a.now c.args.b.now c.args.pairs.now c.args.cells.now) c.loop-n.n (g.P.Pairs.pairs c.loop-n.eq)
      (λ i j w. let l : j < length c.args.pairs.now = one_within c.args.a.now c.args.b.now c.args.pairs.now c.args.cells.now i j w
      in omega (arith, l, c.loop-n-test.false))
      c.rise.ensures c.loop-n.invariant.0,
  joined_all (WantsShare c.args.a.now c.args.b.now c.args.pairs.now c.args.cells.now) c.loop-n.n (g.P.Pairs.pairs c.loop-n.shared)
      (λ i j w. let l : j < length c.args.pairs.now = share_within c.args.a.now c.args.b.now c.args.pairs.now c.args.cells.now i j w
      in omega (arith, l, c.loop-n-test.false))
      c.rise-2.ensures c.loop-n.invariant.1,
)
