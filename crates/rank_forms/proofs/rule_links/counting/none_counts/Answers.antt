use Rattle.rank_forms.proofs.Counted.{zeros_more}
use Rattle.rank_forms.proofs.rule_links.counting.none_counts.Goals as goal

pub loop-n-preserved : goal.loop-n-preserved
loop-n-preserved c = zeros_more c.loop-n.counts.items _ c.loop-n._n c.args.rows _ c.loop-n-test.true c.in_ok-push.ensures.items
    c.loop-n.invariant
