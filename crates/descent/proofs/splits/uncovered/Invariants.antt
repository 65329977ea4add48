use Rattle.std.proofs.Common.{◌≡◌, ◌++◌, drop}
use Rattle.std.specs.Prelude.{filter}
use Rattle.std.specs.List.{concat}
use Rattle.descent.specs.inner.Placed.{lesser}
use Rattle.descent.specs.Splits.{is_misplaced, least}
use Rattle.descent.proofs.splits.uncovered.Given as goal

abbrev pub invariant-loop-part : goal.invariant-loop-part
invariant-loop-part l = lesser l.least (least (filter (is_misplaced l.set l.parts) (concat (drop l.part-index l.parts)))) ≡ least
    (filter (is_misplaced l.set l.parts) (l.set ++ concat l.parts))
