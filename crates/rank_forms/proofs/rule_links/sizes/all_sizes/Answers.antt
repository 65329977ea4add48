use Rattle.rank_forms.proofs.Sized.{sizes_more}
use Rattle.rank_forms.proofs.rule_links.sizes.all_sizes.Goals as goal

pub loop-n-preserved : goal.loop-n-preserved
loop-n-preserved c = sizes_more c.args.rows.now c.loop-n.n c.index-rows-n.result c.loop-n.ties _ _ c.loop-n-test.true
    c.index-rows-n.is c.in_ok-add_size_row.ensures c.loop-n.invariant
