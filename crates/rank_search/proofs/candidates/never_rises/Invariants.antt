use Rattle.std.proofs.Common.{◌≡◌, drop}
use Rattle.rank_search.specs.inner.Candidates.{never_rises}
use Rattle.rank_search.proofs.candidates.never_rises.Given as goal

abbrev pub invariant-loop-changes : goal.invariant-loop-changes
invariant-loop-changes l = never_rises l.form (drop l.changes-index l.table) ≡ never_rises l.form l.table
