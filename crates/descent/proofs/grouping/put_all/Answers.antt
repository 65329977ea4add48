use Rattle.std.proofs.Common.{length}
use Rattle.descent.proofs.Classes.{insert_more}
use Rattle.descent.proofs.grouping.put_all.Goals as goal

pub loop-rule-preserved : goal.loop-rule-preserved
loop-rule-preserved c = insert_more c.args.table.now c.loop-rule.rule (length c.args.table.now) c.loop-rule.classes.items _ _
    c.loop-rule-test.true c.in_ok-put_in.ensures c.loop-rule.invariant
