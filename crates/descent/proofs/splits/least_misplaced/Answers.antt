use Rattle.descent.specs.Splits.{is_misplaced}
use Rattle.descent.proofs.Placing.{least_more}
use Rattle.descent.proofs.splits.least_misplaced.Goals as goal

pub loop-rule-preserved : goal.loop-rule-preserved
loop-rule-preserved c = least_more (is_misplaced c.args.set.now c.args.parts.now) c.loop-rule.least _ _ c.args.rules.now
    c.loop-rule.rule-index c.loop-rule-test.true c.loop-rule.invariant c.with_misplaced-least.ensures
