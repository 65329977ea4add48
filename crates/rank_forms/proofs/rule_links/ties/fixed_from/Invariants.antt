use Rattle.std.proofs.Common.{◌≡◌, drop}
use Rattle.rank_forms.specs.rule_links.Ties.{fixed_from}
use Rattle.rank_forms.proofs.rule_links.ties.fixed_from.Given as goal

abbrev pub invariant-loop-n : goal.invariant-loop-n
invariant-loop-n l = fixed_from l.variable l.rows l.n (drop l.n l.rows) ≡ fixed_from l.variable l.rows 0 l.rows
