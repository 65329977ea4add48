use Rattle.std.proofs.Common.{◌≡◌, ◌∙◌, ◌++◌, ◌+◌, List, length, drop, map, zip, ap, arith}
use Rattle.std.proofs.lemmas.List.Elements.{length_all_zip}
use Rattle.abs_cells.specs.AbstractStates.{AbstractFrame}
use Rattle.abs_widen.specs.Widening.{merged_frame, merged_frames}
use Rattle.abs_widen.specs.inner.Visiting.{AreAsLong}
use Rattle.abs_widen.proofs.Zips.{made_at}
use Rattle.abs_widen.proofs.numbers.merged_frames.Goals as goal

pub loop-n-preserved : goal.loop-n-preserved
loop-n-preserved g c =
    let long : length c.args.frames.now ≡ length c.args.others.now = length_all_zip AreAsLong c.args.frames.now c.args.others.now
    c.requires.long in
    ap (λ (done : List AbstractFrame). done ++ map (λ both. merged_frame c.args.a.now c.args.b.now c.args.pairs.now both.0 both.1)
    (zip (drop (c.loop-n.n + 1) c.args.frames.now) (drop (c.loop-n.n + 1) c.args.others.now))) c.in_ok-push.ensures.items
    ∙ made_at (λ both. merged_frame c.args.a.now c.args.b.now c.args.pairs.now both.0 both.1) c.loop-n.merged.items
    (merged_frames c.args.a.now c.args.b.now c.args.pairs.now c.args.frames.now c.args.others.now) c.args.frames.now
    c.args.others.now c.loop-n.n
    c.index-frames-n.result c.index-others-n.result c.in_ok-merged_frame.field-0 c.loop-n-test.true
    (omega (arith, long, c.loop-n-test.true)) c.index-frames-n.is c.index-others-n.is c.in_ok-merged_frame.ensures c.loop-n.invariant
