use Rattle.std.proofs.Common.{refl}
use Rattle.term_enc.proofs.Encoded.{refused, answered}
use Rattle.term_enc.proofs.encoding.encode.Goals as goal

pub returns-then-is_small : goal.returns-then-is_small
returns-then-is_small g c =
    let finite = c.is_finite.ensures.0 c.if-not-is_finite.false in
    let small = c.is_small.ensures.0 c.if-is_small.true in
    answered 4096 refl c.args.state.now c.cells-cells.result.now c.cells-cells.ensures c.args.x c.requires.there finite
    c.built.result small c.built.ensures

pub returns : goal.returns
returns g c = refused 4096 refl c.args.state.now c.cells-cells.result.now c.cells-cells.ensures c.args.x c.is_small.result
    c.is_small.ensures c.if-is_small.false
