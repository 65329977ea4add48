use Rattle.std.proofs.Common.{refl, pos, arith}
use Rattle.lin_core.proofs.Cells.{cleared_counts, cleared_sum, sized}
use Rattle.lin_core.proofs.sums.Scratch.clear.Goals as goal

pub invariant_of-self : goal.invariant_of-self
invariant_of-self c = cleared_counts _ c.next_round-self-inside.ensures.round refl

pub returns : goal.returns
returns c =
    let count = sized c.self.inside c.args.self.now c.self.view_is in
    let below = c.next_round-self-inside.ensures.round in
    cleared_sum (record {
      cells = c.next_round-self-inside.new.cells;
      round = c.next_round-self-inside.result;
      nonzero = 0;
      constant
          = pos 0;
    }) _ below refl (omega arith)
