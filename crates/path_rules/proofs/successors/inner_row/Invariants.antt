use Rattle.std.proofs.Common.{◌≡◌, ◌++◌, drop}
use Rattle.path_rules.specs.Successors.{inner_row}
use Rattle.path_rules.proofs.successors.inner_row.Given as goal

abbrev pub invariant-loop-to : goal.invariant-loop-to
invariant-loop-to l = l.inner ++ inner_row l.marks (drop l.to-index l.row) ≡ inner_row l.marks l.row
