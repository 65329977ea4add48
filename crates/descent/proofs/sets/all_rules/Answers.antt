use Rattle.descent.proofs.Checked.{numbers_more}
use Rattle.descent.proofs.sets.all_rules.Goals as goal

pub loop-rule-preserved : goal.loop-rule-preserved
loop-rule-preserved c = rw c.in_ok-push.ensures.items
    (numbers_more c.loop-rule.set c.loop-rule.rule c.args.count _ c.loop-rule-test.true c.loop-rule.invariant)
