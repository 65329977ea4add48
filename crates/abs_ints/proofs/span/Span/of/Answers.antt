use Rattle.std.proofs.Common.{arith}
use Rattle.std.proofs.lemmas.Int.{ints}
use Rattle.abs_ints.proofs.Making.{ends_are}
use Rattle.abs_ints.proofs.span.Span.of.Goals as goal

pub returns : goal.returns
returns c = ends_are _ _ c.args.interval.lo c.args.interval.hi (omega (arith, ints)) (omega (arith, ints))

pub invariant_of-result : goal.invariant_of-result
invariant_of-result c = (omega (arith, ints), omega (arith, ints), omega (arith, ints), omega (arith, ints))
