use Rattle.std.proofs.Common.{◌≡◌, ◌++◌, drop}
use Rattle.rank_forms.specs.rule_links.inner.Rising.{size_ties_from}
use Rattle.rank_forms.proofs.rule_links.sizes.all_sizes.Given as goal

abbrev pub invariant-loop-n : goal.invariant-loop-n
invariant-loop-n l = l.ties ++ size_ties_from l.rows l.n (drop l.n l.rows) ≡ size_ties_from l.rows 0 l.rows
