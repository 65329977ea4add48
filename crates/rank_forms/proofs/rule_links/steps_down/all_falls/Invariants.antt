use Rattle.std.proofs.Common.{◌≡◌, ◌++◌, drop}
use Rattle.rank_forms.specs.rule_links.inner.Rising.{fall_ties_from}
use Rattle.rank_forms.proofs.rule_links.steps_down.all_falls.Given as goal

abbrev pub invariant-loop-n : goal.invariant-loop-n
invariant-loop-n l = l.ties ++ fall_ties_from l.negative l.n (drop l.n l.rows) ≡ fall_ties_from l.negative 0 l.rows
