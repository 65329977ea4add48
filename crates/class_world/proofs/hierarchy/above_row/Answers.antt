use Rattle.std.proofs.Common.{◌≡◌, length, arith}
use Rattle.std.proofs.lemmas.List.{nil_from_length}
use Rattle.class_world.proofs.Marking.{may_mark, next_within, Closing-first_at, Closing-more_at, less_work, Closing-end_at}
use Rattle.class_world.proofs.hierarchy.above_row.Goals as goal

pub mark_all-requires : goal.mark_all-requires
mark_all-requires c = let f : length c.in_ok-marks.marks.items ≡ length c.args.supers.now = omega
    (arith, c.in_ok-marks.marks.ok.0, c.in_ok-marks.ensures.len) in may_mark c.args.supers.now c.args.class _ _ c.requires.closed
    c.row_at.ensures f

pub loop-next-init : goal.loop-next-init
loop-next-init c = Closing-first_at c.args.supers.now c.args.class _ _ _ _ _ c.requires.closed
    (c.in_ok-marks.ensures.items_if_clones_equal (λ y e. e)) c.new-todo.ensures.items c.row_at.ensures
    c.in_ok-mark_all.ensures.marks c.in_ok-mark_all.ensures.todo

pub row_at-requires-in-Some : goal.row_at-requires-in-Some
row_at-requires-in-Some c = next_within c.args.supers.now c.args.class _ _ _ c.in-Some.next c.loop-next.invariant c.in-Some.ensures.items

pub mark_all-requires-in-Some : goal.mark_all-requires-in-Some
mark_all-requires-in-Some c = may_mark c.args.supers.now c.in-Some.next _ _ c.requires.closed c.row_at-in-Some.ensures
    c.loop-next.invariant.len

pub loop-next-smaller : goal.loop-next-smaller
loop-next-smaller c = less_work c.args.supers.now c.args.class _ _ _ _ _ _ c.in-Some.next c.requires.closed c.loop-next.invariant
    c.in-Some.ensures.items c.row_at-in-Some.ensures c.in_ok-mark_all-2.ensures.marks c.in_ok-mark_all-2.ensures.todo

pub loop-next-preserved : goal.loop-next-preserved
loop-next-preserved c = Closing-more_at c.args.supers.now c.args.class _ _ _ _ _ _ c.in-Some.next c.requires.closed
    c.loop-next.invariant c.in-Some.ensures.items c.row_at-in-Some.ensures c.in_ok-mark_all-2.ensures.marks c.in_ok-mark_all-2.ensures.todo

pub returns : goal.returns
returns c = let e : length c.loop-next.todo.items ≡ 0 = omega (arith, c.loop-next.todo.ok.0, (c.in_default.ensures.cases).0) in
    Closing-end_at c.args.supers.now c.args.class _ _ _ c.requires.closed c.loop-next.invariant (nil_from_length _ e) c.from_vec.ensures
