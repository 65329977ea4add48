use Rattle.std.proofs.Common.{ℕ, take}
use Rattle.std.specs.Prelude.{All}
use Rattle.abs_cells.specs.declared.cells.Cell.{Cell}
use Rattle.prove_core.specs.Stored.{IsStoredCell}
use Rattle.prove_core.proofs.stored.cells_are_stored.Given as goal

abbrev pub invariant-loop-one : goal.invariant-loop-one
invariant-loop-one l = All (λ (c : ℕ × Cell). IsStoredCell c.1) (take l.one-index l.cells)
