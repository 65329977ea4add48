use Rattle.std.proofs.Common.{sym, arith}
use Rattle.abs_cells.proofs.RisingPairs.{no_pair}
use Rattle.abs_cells.proofs.pairs.is_pair.Goals as goal

pub returns-then-a-b : goal.returns-then-a-b
returns-then-a-b g c = sym (no_pair c.args.a c.args.b (g.P.Pairs.pairs c.args.pairs.now) c.rise.ensures (λ n l m. n c.if-a-b.true))

pub returns-then-a-ge2048 : goal.returns-then-a-ge2048
returns-then-a-ge2048 g c =
    sym (no_pair c.args.a c.args.b (g.P.Pairs.pairs c.args.pairs.now) c.rise.ensures (λ n l m. omega (arith, l, c.if-a-ge2048.true)))

pub returns-then-b-ge2048 : goal.returns-then-b-ge2048
returns-then-b-ge2048 g c =
    sym (no_pair c.args.a c.args.b (g.P.Pairs.pairs c.args.pairs.now) c.rise.ensures (λ n l m. omega (arith, m, c.if-b-ge2048.true)))
