use Rattle.std.proofs.Common.{◌∙◌, ℕ, List, subst}
use Rattle.abs_cells.specs.declared.cells.Cell.{Cell}
use Rattle.abs_widen.specs.inner.Pairing.{WantsOne, WantsShare, AreJoined}
use Rattle.abs_widen.proofs.Widened.{paired_of}
use Rattle.abs_widen.proofs.widening.paired.Goals as goal

pub returns : goal.returns
returns g c =
    paired_of c.args.a.now c.args.b.now c.args.pairs.now c.args.left.now c.in_ok-frames.frames c.throwing.result c.in_ok-cells.cells
    (g.P.Pairs.pairs c.in_ok-both.both.0) (g.P.Pairs.pairs c.in_ok-both.both.1) c.new.result
    c.new.ensures c.in_ok-frames.ensures c.throwing.ensures (c.in_ok-cells.ensures ∙ c.cells.ensures)
    (subst (λ (l : List (ℕ × Cell)). AreJoined (WantsOne c.args.a.now c.args.b.now c.args.pairs.now l)
    (g.P.Pairs.pairs c.in_ok-both.both.0) × AreJoined (WantsShare c.args.a.now c.args.b.now c.args.pairs.now l)
    (g.P.Pairs.pairs c.in_ok-both.both.1)) c.cells-2.ensures c.in_ok-both.ensures)
