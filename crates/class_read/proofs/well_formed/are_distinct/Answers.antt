use Rattle.std.proofs.Common.{sym}
use Rattle.std.specs.List.{IsDistinct}
use Rattle.class_read.proofs.RuleLaws.{not_distinct, still_distinct}
use Rattle.class_read.proofs.well_formed.are_distinct.Goals as goal

pub loop-m-init : goal.loop-m-init
unfolding IsDistinct
loop-m-init c = record { keys = c.new-seen.ensures; distinct = tt }

pub returns-then-not-branch : goal.returns-then-not-branch
returns-then-not-branch c = (
  λ is. absurd (cc),
  λ distinct.
      absurd (not_distinct c.args.pool.now c.args.members.now c.loop-m.m-index c.m-item.result _ _ _ _ c.loop-m-test.true
      (sym c.m-item.is) c.text-name.ensures c.text-desc.ensures c.loop-m.invariant.keys c.in_ok-add.ensures.was_there
      c.if-not-branch.true distinct),
)

pub loop-m-preserved : goal.loop-m-preserved
loop-m-preserved c =
    let more = still_distinct c.args.pool.now c.args.members.now c.loop-m.m-index c.m-item.result _ _ _ _ _ c.loop-m-test.true
    (sym c.m-item.is) c.text-name.ensures c.text-desc.ensures c.loop-m.invariant.keys c.loop-m.invariant.distinct
    c.in_ok-add.ensures.keys c.in_ok-add.ensures.was_there c.if-not-branch.false in
    record { keys = more.0; distinct = more.1 }
