use Rattle.std.proofs.Common.{◌≡◌, drop}
use Rattle.rank_forms.specs.rule_links.Ties.{most_from}
use Rattle.rank_forms.proofs.rule_links.ties.most_from.Given as goal

abbrev pub invariant-loop-n : goal.invariant-loop-n
invariant-loop-n l = most_from l.variable l.low l.n (drop l.n l.rows) ≡ most_from l.variable l.low 0 l.rows
