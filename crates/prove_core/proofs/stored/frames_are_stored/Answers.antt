use Rattle.std.proofs.Common.{arith}
use Rattle.list_views.proofs.Quantified.{every_one_more, every_whole}
use Rattle.prove_core.specs.Stored.{IsStoredFrame}
use Rattle.prove_core.proofs.stored.frames_are_stored.Goals as goal

pub loop-one-preserved : goal.loop-one-preserved
loop-one-preserved c = every_one_more IsStoredFrame c.args.frames.now c.loop-one.one-index c.one-item.result
    (omega (arith, c.loop-one-test.true)) c.one-item.is c.loop-one.invariant c.frame_is_stored.ensures

pub returns : goal.returns
returns c = every_whole IsStoredFrame c.args.frames.now c.loop-one.one-index (omega (arith, c.loop-one-test.false)) c.loop-one.invariant
