use Rattle.std.proofs.Common.{arith}
use Rattle.descent.proofs.Classes.{tabled_first, tabled_more, tabled_last}
use Rattle.descent.proofs.reaching.rows.Goals as goal

pub loop-rule-init : goal.loop-rule-init
loop-rule-init c = tabled_first c.args.rules.now _ c.new-table.ensures

pub loop-rule-preserved : goal.loop-rule-preserved
loop-rule-preserved c = tabled_more c.args.rules.now c.loop-rule.table _ _ c.loop-rule.rule c.in_ok-push.ensures.items
    c.loop-rule.invariant c.in_ok-row.ensures

pub returns : goal.returns
returns c = tabled_last c.args.rules.now c.loop-rule.table c.loop-rule.rule (omega arith) c.loop-rule.invariant
