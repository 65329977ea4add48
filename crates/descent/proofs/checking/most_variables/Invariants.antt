use Rattle.std.proofs.Common.{ℕ, ◌<◌, ◌≤◌, get_or}
use Rattle.descent.specs.Conditions.{AreOver}
use Rattle.descent.specs.declared.rules.PathRule.{PathRule}
use Rattle.descent.proofs.checking.most_variables.Given as goal

abbrev pub invariant-loop-rule : goal.invariant-loop-rule
invariant-loop-rule l = ((k : ℕ) (d : PathRule) → k < l.rule-index → (get_or l.rules k d).vars ≤ l.most)
    × ((count : ℕ) → AreOver count l.rules → l.most ≤ count)
