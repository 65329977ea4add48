use Rattle.rank_forms.proofs.Reached.{none_more}
use Rattle.rank_forms.proofs.rule_links.reaching.none_known.Goals as goal

pub loop-n-preserved : goal.loop-n-preserved
loop-n-preserved c = none_more c.loop-n.known.items _ c.loop-n._n c.args.count _ c.loop-n-test.true c.in_ok-push.ensures.items
    c.loop-n.invariant
