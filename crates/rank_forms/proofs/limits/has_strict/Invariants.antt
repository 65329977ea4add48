use Rattle.std.proofs.Common.{◌≡◌, drop}
use Rattle.rank_forms.specs.RankSteps.{has_strict}
use Rattle.rank_forms.proofs.limits.has_strict.Given as goal

abbrev pub invariant-loop-one : goal.invariant-loop-one
invariant-loop-one l = has_strict (drop l.one-index l.listed) ≡ has_strict l.listed
