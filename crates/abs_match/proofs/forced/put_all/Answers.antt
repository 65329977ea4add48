use Rattle.std.proofs.Common.{◌∙◌, ◌+◌, ◌<◌, length, drop, sym, ap, arith}
use Rattle.abs_match.specs.inner.Forced.{stacked}
use Rattle.abs_match.proofs.Forcing.{stacked_more, stacked_end}
use Rattle.abs_match.proofs.forced.put_all.Goals as goal

pub loop-n-preserved : goal.loop-n-preserved
loop-n-preserved c =
    let low : c.loop-n.n < length c.args.images.now = omega (arith, c.loop-n-test.true, c.if-ids-images.false) in
    ap (stacked (drop (c.loop-n.n + 1) c.args.ids.now) (drop (c.loop-n.n + 1) c.args.images.now)) c.in_ok-put.ensures.ok
    ∙ sym (stacked_more c.args.ids.now c.args.images.now c.loop-n.n c.loop-n.todo.0 c.loop-n-test.true low) ∙ c.loop-n.invariant

pub returns : goal.returns
returns c = (
  c.if-ids-images.false,
  sym
      (stacked_end c.args.ids.now c.args.images.now c.loop-n.n c.loop-n.todo.0 c.loop-n-test.false) ∙ c.loop-n.invariant,
)
