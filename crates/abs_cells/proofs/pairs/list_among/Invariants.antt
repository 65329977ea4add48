use Rattle.std.proofs.Common.{◌≤◌, length}
use Rattle.abs_cells.proofs.AmongLaws.{IsLeft}
use Rattle.abs_cells.proofs.pairs.list_among.Given as goal

abbrev pub invariant-loop-other : goal.invariant-loop-other
invariant-loop-other l = IsLeft l.some l.others l.met l.other-index × (l.met ≤ length l.some)
