use Rattle.std.proofs.Common.{◌≡◌, ◌++◌, drop}
use Rattle.rank_forms.specs.Reasons.{size_entries}
use Rattle.rank_forms.proofs.size_reasons.size_entries.Given as goal

abbrev pub invariant-loop-tie : goal.invariant-loop-tie
invariant-loop-tie l = l.entries ++ size_entries l.rows (drop l.tie-index l.ties) ≡ size_entries l.rows l.ties
