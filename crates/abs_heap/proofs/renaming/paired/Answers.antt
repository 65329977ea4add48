use Rattle.abs_heap.proofs.Affected.{paired_next, paired_all}
use Rattle.abs_heap.proofs.renaming.paired.Goals as goal

pub loop-place-preserved : goal.loop-place-preserved
loop-place-preserved c = paired_next c.args.olds.now c.args.news.now c.loop-place.place _ _ c.loop-place.names _
    c.loop-place-test.true c.requires c.loop-place.invariant c.in_ok-push.ensures.items

pub returns : goal.returns
returns c = paired_all c.args.olds.now c.args.news.now c.loop-place.place c.loop-place.names c.loop-place-test.false c.requires
    c.loop-place.invariant
