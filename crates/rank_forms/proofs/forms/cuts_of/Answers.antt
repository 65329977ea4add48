use Rattle.std.proofs.Common.{arith, sym}
use Rattle.rank_forms.proofs.Cut.{cuts_first, cuts_last, cuts_more, next_low, smaller_cut}
use Rattle.rank_forms.proofs.forms.cuts_of.Goals as goal

pub loop-cut-init : goal.loop-cut-init
loop-cut-init c = (cuts_first c.args.rules.now _ c.new-cuts.ensures, omega arith)

pub loop-cut-preserved : goal.loop-cut-preserved
loop-cut-preserved c = (
  cuts_more c.args.rules.now c.loop-cut.cuts _ c.loop-cut.low c.in-Some.cut _ (sym c.in-Some.ensures)
      c.in_ok-push.ensures.items c.after-low.ensures.next c.loop-cut.invariant.0,
  c.after-low.ensures.small,
)

pub loop-cut-smaller : goal.loop-cut-smaller
loop-cut-smaller c = smaller_cut c.loop-cut.low c.in-Some.cut _
    (next_low c.args.rules.now c.loop-cut.low c.in-Some.cut (sym c.in-Some.ensures)) c.after-low.ensures.next c.after-low.ensures.small

pub returns : goal.returns
returns c = cuts_last c.args.rules.now c.loop-cut.cuts c.loop-cut.low (sym c.in_default.ensures) c.loop-cut.invariant.0
