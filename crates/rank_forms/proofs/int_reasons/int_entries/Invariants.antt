use Rattle.std.proofs.Common.{◌≡◌, ◌++◌, drop}
use Rattle.rank_forms.specs.Reasons.{int_entries}
use Rattle.rank_forms.proofs.int_reasons.int_entries.Given as goal

abbrev pub invariant-loop-tie : goal.invariant-loop-tie
invariant-loop-tie l = l.entries ++ int_entries l.times (drop l.tie-index l.ties) ≡ int_entries l.times l.ties
