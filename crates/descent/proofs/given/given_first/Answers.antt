use Rattle.descent.proofs.Checked.{first_more}
use Rattle.descent.proofs.given.given_first.Goals as goal

pub loop-n-preserved : goal.loop-n-preserved
loop-n-preserved c = rw c.in_ok-push-2.ensures.items
    (first_more c.loop-n.given.items _ c.loop-n._n c.args.steps c.loop-n-test.true c.loop-n.invariant)
