use Rattle.std.proofs.Common.{◌≡◌, drop}
use Rattle.rank_forms.specs.rule_links.Falls.{zero_from}
use Rattle.rank_forms.proofs.rule_links.sizes.zero_row.Given as goal

abbrev pub invariant-loop-n : goal.invariant-loop-n
invariant-loop-n l = zero_from l.variable l.n (drop l.n l.rows) ≡ zero_from l.variable 0 l.rows
