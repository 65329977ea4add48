use Rattle.std.proofs.Common.{◌≡◌, drop}
use Rattle.std.specs.Prelude.{filter}
use Rattle.descent.specs.inner.Placed.{lesser}
use Rattle.descent.specs.Splits.{is_misplaced, least}
use Rattle.descent.proofs.splits.least_misplaced.Given as goal

abbrev pub invariant-loop-rule : goal.invariant-loop-rule
invariant-loop-rule l = lesser l.least (least (filter (is_misplaced l.set l.parts) (drop l.rule-index l.rules))) ≡ lesser l.fn.found
    (least (filter (is_misplaced l.set l.parts) l.rules))
