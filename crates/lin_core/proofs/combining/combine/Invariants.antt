use Rattle.std.proofs.Common.{drop}
use Rattle.lin_core.specs.Sums.{variables}
use Rattle.lin_core.specs.Weights.{weight_in, rows_under}
use Rattle.lin_core.proofs.Partly.{IsPartly}
use Rattle.lin_core.proofs.combining.combine.Given as goal

abbrev pub invariant-loop-index : goal.invariant-loop-index
invariant-loop-index l = IsPartly (rows_under (weight_in l.weights) l.rows) l.multipliers (drop l.index-index l.multipliers)
    l.index-index (variables l.fn.into) l.into
