use Rattle.std.proofs.Common.{arith}
use Rattle.filled_graphs.proofs.Noting.{ended}
use Rattle.filled_graphs.proofs.origins.origins_of.Goals as goal

pub returns : goal.returns
returns g c =
    let past = c.loop-number-test.false in
    let end = c.loop-number.auto.number-end in
    let count = c.count-number-end.ensures in
    ended (g.S.PartSource.parts c.args.parts.now) c.loop-number.number c.loop-number.origins (omega (arith, past, end, count))
    c.requires.named c.loop-number.invariant
