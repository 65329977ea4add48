use Rattle.std.proofs.Common.{◌+◌, Option, arith}
use Rattle.term_enc.specs.declared.terms.PatternTerm.{PatternTerm}
use Rattle.term_enc.specs.inner.Counting.{IsAnswer, IsSmallAnswer}
use Rattle.term_enc.proofs.Shallow.{shallow}
use Rattle.term_enc.proofs.Built.{weaker}
use Rattle.term_enc.proofs.building.built.Goals as goal

pub returns : goal.returns
returns c = weaker
    (λ (term : Option PatternTerm). IsAnswer (c.args.most + 1) c.args.cells.now c.args.id term)
    (λ (term : Option PatternTerm). IsSmallAnswer c.args.most c.args.cells.now c.args.id term)
    (λ term h given is small. h given (shallow is.depth (c.args.most + 1) c.args.cells.now c.args.id given is.is (omega (arith, small))))
    c.pattern.result c.pattern.ensures
