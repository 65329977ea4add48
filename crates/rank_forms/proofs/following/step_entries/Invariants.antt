use Rattle.std.proofs.Common.{◌≡◌, ◌++◌, drop}
use Rattle.rank_forms.specs.inner.Following.{step_entries}
use Rattle.rank_forms.proofs.following.step_entries.Given as goal

abbrev pub invariant-loop-tie : goal.invariant-loop-tie
invariant-loop-tie l = l.entries ++ step_entries (drop l.tie-index l.ties) ≡ step_entries l.ties
