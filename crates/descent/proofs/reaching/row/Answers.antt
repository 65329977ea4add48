use Rattle.std.proofs.Common.{[], ◌∷◌, refl}
use Rattle.descent.proofs.Spread.{marking_first, marking_more, marking_less, marking_last}
use Rattle.descent.proofs.reaching.row.Goals as goal

pub loop-group-init : goal.loop-group-init
loop-group-init c = marking_first c.args.rules.now c.args.rule c.args.next.now c.args.groups.now (c.args.rule ∷ []) _ _ _ _
    c.requires.rule c.requires.next c.requires.groups refl (c.in_ok-marks.ensures.items_if_clones_equal (λ y e. e))
    (c.in_ok-seen.ensures.items_if_clones_equal (λ y e. e)) c.new-todo.ensures c.in_ok-go_on.ensures

pub loop-group-smaller : goal.loop-group-smaller
loop-group-smaller c = marking_less c.in-Some.group c.args.next.now c.group_of.result.now c.loop-group.marks.items
    c.loop-group.seen.items c.loop-group.todo _ _ c.in-Some.ensures c.in_ok-go_on-2.ensures

pub loop-group-preserved : goal.loop-group-preserved
loop-group-preserved c = marking_more c.args.rules.now c.args.rule c.in-Some.group c.args.next.now c.args.groups.now
    c.group_of.result.now c.loop-group.marks.items c.loop-group.seen.items c.loop-group.todo _ _ c.requires.next c.requires.groups
    c.group_of.ensures c.in-Some.ensures c.in_ok-go_on-2.ensures c.loop-group.invariant

pub returns : goal.returns
returns c = marking_last c.args.rules.now c.args.rule c.args.next.now c.args.groups.now c.loop-group.marks.items
    c.loop-group.seen.items _ c.loop-group.todo c.requires.next c.requires.groups c.in_default.ensures.0 c.from_vec.ensures
    c.loop-group.invariant
