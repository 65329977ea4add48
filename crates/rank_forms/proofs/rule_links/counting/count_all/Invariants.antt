use Rattle.std.proofs.Common.{◌≡◌, drop, replicate, pos}
use Rattle.rank_forms.specs.rule_links.Counting.{counted}
use Rattle.rank_forms.proofs.rule_links.counting.count_all.Given as goal

abbrev pub invariant-loop-row : goal.invariant-loop-row
invariant-loop-row l = counted (drop l.row-index l.entries) l.counts.items ≡ counted l.entries (replicate l.rows (pos 0))
