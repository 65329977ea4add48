use Rattle.abs_heap.proofs.Merging.{turned_answer}
use Rattle.abs_heap.proofs.equals.merged_child.Goals as goal

pub returns-in_ok-merged-2 : goal.returns-in_ok-merged-2
returns-in_ok-merged-2 g c = turned_answer (g.T.Types.sub c.args.types.now) c.args.state.now c.args.x c.args.y c.args.left.now
    c.args.right.now _ _ _ c.in_ok-merged-2.merged _ _ c.requires.differ c.requires.left c.requires.right c.rank_of.ensures
    c.rank_of-2.ensures c.stays_before.ensures c.if-stays_before.false c.in_ok-merged-2.ensures
    c.plain_link-else-stays_before.ensures c.new-else-stays_before.ensures
