use Rattle.std.proofs.Common.{◌≡◌}
use Rattle.std.specs.List.{AllWithin}
use Rattle.lin_core.specs.declared.sums.Cell.{Cell}
use Rattle.lin_core.proofs.sums.next_round.Given as goal

abbrev pub invariant-loop-cell : goal.invariant-loop-cell
invariant-loop-cell l = AllWithin (λ (cell : Cell). cell.round ≡ 0) l.cell-items 0 l.cell-index
