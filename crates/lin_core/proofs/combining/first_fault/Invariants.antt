use Rattle.std.proofs.Common.{◌≡◌, drop}
use Rattle.lin_core.specs.Weights.{rows_under, unweighed}
use Rattle.lin_core.specs.Combination.{first_fault, first_fault_from}
use Rattle.lin_core.proofs.combining.first_fault.Given as goal

abbrev pub invariant-loop-n : goal.invariant-loop-n
invariant-loop-n l = first_fault_from (rows_under unweighed l.rows) l.n (drop l.n l.multipliers) ≡ first_fault
    (rows_under unweighed l.rows) l.multipliers
