use Rattle.std.proofs.Common.{◌≡◌, drop}
use Rattle.rank_forms.specs.rule_links.Falls.{has_zero}
use Rattle.rank_forms.proofs.rule_links.sizes.has_zero.Given as goal

abbrev pub invariant-loop-row : goal.invariant-loop-row
invariant-loop-row l = has_zero l.variable (drop l.row-index l.rows) ≡ has_zero l.variable l.rows
