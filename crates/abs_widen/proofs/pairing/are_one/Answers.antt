use Rattle.std.proofs.Common.{true}
use Rattle.abs_cells.proofs.Checking.{has_cell_to}
use Rattle.abs_reach.proofs.Room.{has_cell_low}
use Rattle.abs_widen.proofs.pairing.are_one.Goals as goal

pub may_be_one-requires-clause-low : goal.may_be_one-requires-clause-low
may_be_one-requires-clause-low g c = (
  has_cell_low c.args.a.now.cells c.args.p.0 c.requires.first.rising
      (has_cell_to (λ _. true) c.args.a.now c.args.p.0 c.requires.p_within.first),
  has_cell_low c.args.a.now.cells c.args.q.0 c.requires.first.rising
      (has_cell_to (λ _. true) c.args.a.now c.args.q.0 c.requires.q_within.first),
)

pub may_be_one-requires-else-may_be_one-clause-low : goal.may_be_one-requires-else-may_be_one-clause-low
may_be_one-requires-else-may_be_one-clause-low g c = (
  has_cell_low c.args.b.now.cells c.args.p.1 c.requires.second.rising
      (has_cell_to (λ _. true) c.args.b.now c.args.p.1 c.requires.p_within.second),
  has_cell_low c.args.b.now.cells c.args.q.1 c.requires.second.rising
      (has_cell_to (λ _. true) c.args.b.now c.args.q.1 c.requires.q_within.second),
)
