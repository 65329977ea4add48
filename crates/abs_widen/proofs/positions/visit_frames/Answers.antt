use Rattle.std.proofs.Common.{◌≡◌, length, get_or, sym, subst, arith}
use Rattle.std.proofs.lemmas.List.Elements.{length_all_zip}
use Rattle.abs_cells.specs.AbstractStates.{AbstractFrame}
use Rattle.abs_widen.specs.Visits.{frame_pairs, frames_pairs}
use Rattle.abs_widen.specs.inner.Visiting.{AreAsLong}
use Rattle.abs_widen.proofs.Zips.{all_at}
use Rattle.abs_widen.proofs.Visiting.{paired_here, gone_past}
use Rattle.abs_widen.proofs.positions.visit_frames.Goals as goal

pub visit_frame-requires-clause-paired : goal.visit_frame-requires-clause-paired
visit_frame-requires-clause-paired g c =
    let long : length c.args.frames.now ≡ length c.args.others.now = length_all_zip AreAsLong c.args.frames.now c.args.others.now
    c.requires.long in
    paired_here (λ both. frame_pairs c.args.a.now c.args.b.now both.0 both.1) c.args.frames.now c.args.others.now c.loop-n.n
    c.index-frames-n.result c.index-others-n.result c.index-frames-n.is c.index-others-n.is c.loop-n-test.true
    (omega (arith, long, c.loop-n-test.true))
    c.args.a.now c.args.b.now c.loop-n.invariant.paired

pub visit_frame-requires-clause-long : goal.visit_frame-requires-clause-long
visit_frame-requires-clause-long g c =
    let there = all_at AreAsLong c.args.frames.now c.args.others.now c.loop-n.n c.index-frames-n.result c.index-others-n.result
    c.requires.long c.loop-n-test.true in
    let first = subst (λ (f : AbstractFrame). AreAsLong f (get_or c.args.others.now c.loop-n.n c.index-others-n.result))
    (sym c.index-frames-n.is) there in
    let both = subst (λ (f : AbstractFrame). AreAsLong c.index-frames-n.result f) (sym c.index-others-n.is) first in
    (both.locals, both.stacks)

pub loop-n-preserved : goal.loop-n-preserved
loop-n-preserved g c =
    let long : length c.args.frames.now ≡ length c.args.others.now = length_all_zip AreAsLong c.args.frames.now c.args.others.now
    c.requires.long in
    gone_past (λ both. frame_pairs c.args.a.now c.args.b.now both.0 both.1) c.args.frames.now c.args.others.now c.loop-n.n
    c.index-frames-n.result c.index-others-n.result c.index-frames-n.is c.index-others-n.is c.loop-n-test.true
    (omega (arith, long, c.loop-n-test.true))
    c.args.a.now c.args.b.now c.args.met.now.items (frames_pairs c.args.a.now c.args.b.now c.args.frames.now c.args.others.now)
    c.loop-n.met.items c.visit_frame.new.met.items c.loop-n.invariant c.in_ok-visit_frame.ensures.ok
