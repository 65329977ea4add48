use Rattle.std.proofs.Common.{◌≡◌, ◌++◌, ◌-◌, replicate, pos}
use Rattle.rank_forms.proofs.rule_links.counting.none_counts.Given as goal

abbrev pub invariant-loop-n : goal.invariant-loop-n
invariant-loop-n l = l.counts.items ++ replicate (l.rows - l._n) (pos 0) ≡ replicate l.rows (pos 0)
