use Rattle.std.proofs.Common.{◌≡◌, ◌++◌, ◌-◌, replicate, None}
use Rattle.rank_forms.proofs.rule_links.reaching.none_known.Given as goal

abbrev pub invariant-loop-n : goal.invariant-loop-n
invariant-loop-n l = l.known.items ++ replicate (l.count - l._n) None ≡ replicate l.count None
