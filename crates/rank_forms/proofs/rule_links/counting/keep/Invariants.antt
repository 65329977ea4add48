use Rattle.std.proofs.Common.{◌≡◌, ◌++◌, drop}
use Rattle.rank_forms.specs.rule_links.Counting.{kept}
use Rattle.rank_forms.proofs.rule_links.counting.keep.Given as goal

abbrev pub invariant-loop-n : goal.invariant-loop-n
invariant-loop-n l = l.list ++ kept l.n (drop l.n l.counts) ≡ kept 0 l.counts
