use Rattle.std.proofs.Common.{drop}
use Rattle.lin_core.proofs.Midway.{IsMidway}
use Rattle.lin_core.proofs.sums.Scratch.add.Given as goal

abbrev pub invariant-loop-variable : goal.invariant-loop-variable
invariant-loop-variable l = IsMidway l.terms (drop l.variable-index l.terms) l.by l.fn.self l.self
