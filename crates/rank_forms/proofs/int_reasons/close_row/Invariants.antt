use Rattle.std.proofs.Common.{◌≡◌, drop}
use Rattle.rank_forms.specs.Reasons.{close_from}
use Rattle.rank_forms.proofs.int_reasons.close_row.Given as goal

abbrev pub invariant-loop-n : goal.invariant-loop-n
invariant-loop-n l = close_from l.variable l.times l.n (drop l.n l.rows) ≡ close_from l.variable l.times 0 l.rows
