use Rattle.abs_heap.proofs.Merging.{both_answers, apart_alone}
use Rattle.abs_heap.proofs.equals.equal_children.Goals as goal

pub returns-in_ok-push-2 : goal.returns-in_ok-push-2
returns-in_ok-push-2 g c = both_answers (g.T.Types.sub c.args.types.now) c.args.state.now c.args.x c.args.y c.args.left.now
    c.args.right.now _ _ _ c.in_ok-merged.merged c.in_ok-apart.apart _ c.requires.left c.requires.right c.are_compatible.ensures
    c.if-are_compatible.true c.in_ok-children.ensures c.in_ok-push.ensures.items c.in_ok-push-2.ensures.items c.in_ok-merged.ensures
    c.in_ok-apart.ensures

pub returns-in_ok-push-3 : goal.returns-in_ok-push-3
returns-in_ok-push-3 g c = apart_alone (g.T.Types.sub c.args.types.now) c.args.state.now c.args.x c.args.y c.args.left.now
    c.args.right.now _ _ c.in_ok-apart.apart _ c.requires.left c.requires.right c.are_compatible.ensures c.if-are_compatible.false
    c.in_ok-children.ensures c.in_ok-push-3.ensures.items c.in_ok-apart.ensures
