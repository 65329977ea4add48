use Rattle.std.proofs.Common.{◌≡◌, drop}
use Rattle.rank_search.specs.inner.Candidates.{falls}
use Rattle.rank_search.proofs.candidates.falls.Given as goal

abbrev pub invariant-loop-changes : goal.invariant-loop-changes
invariant-loop-changes l = falls l.form (drop l.changes-index l.table) ≡ falls l.form l.table
