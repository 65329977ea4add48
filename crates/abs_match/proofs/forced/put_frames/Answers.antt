use Rattle.std.proofs.Common.{◌<◌, length, refl, arith}
use Rattle.std.proofs.lemmas.Option.{slice_get_read}
use Rattle.abs_cells.specs.Sound.{ids_of_frame}
use Rattle.abs_match.specs.inner.Forced.{frames_ask}
use Rattle.abs_match.proofs.Forcing.{first_none, frame_fails, frame_more, all_frames}
use Rattle.abs_match.proofs.forced.put_frames.Goals as goal

pub loop-f-init : goal.loop-f-init
loop-f-init c = first_none (frames_ask c.args.theirs.now c.args.ours.now) ids_of_frame c.args.theirs.now c.args.todo.now.0

pub returns-then-not-branch : goal.returns-then-not-branch
returns-then-not-branch c =
    let low : c.loop-f.f < length c.args.ours.now = omega (arith, c.loop-f-test.true, c.requires) in
    frame_fails c.args.theirs.now c.args.ours.now c.requires c.loop-f.f c.index-theirs-f.result c.index-ours-f.result
    c.in_ok-put_frame.field-0 c.loop-f.todo.0 c.put_frame.new.todo.0
    (slice_get_read c.args.theirs.now (length c.args.theirs.now) c.loop-f.f c.index-theirs-f.result refl c.loop-f-test.true
    c.index-theirs-f.is) (slice_get_read c.args.ours.now (length c.args.ours.now) c.loop-f.f c.index-ours-f.result refl low
    c.index-ours-f.is) c.loop-f-test.true c.if-not-branch.true c.in_ok-put_frame.ensures

pub loop-f-preserved : goal.loop-f-preserved
loop-f-preserved c =
    let low : c.loop-f.f < length c.args.ours.now = omega (arith, c.loop-f-test.true, c.requires) in
    frame_more c.args.theirs.now c.args.ours.now c.requires c.loop-f.f c.index-theirs-f.result c.index-ours-f.result
    c.in_ok-put_frame.field-0 c.args.todo.now.0 c.loop-f.todo.0 c.put_frame.new.todo.0
    (slice_get_read c.args.theirs.now (length c.args.theirs.now) c.loop-f.f c.index-theirs-f.result refl c.loop-f-test.true
    c.index-theirs-f.is) (slice_get_read c.args.ours.now (length c.args.ours.now) c.loop-f.f c.index-ours-f.result refl low
    c.index-ours-f.is) c.loop-f-test.true c.if-not-branch.false c.loop-f.invariant c.in_ok-put_frame.ensures

pub returns : goal.returns
returns c = all_frames c.args.theirs.now c.args.ours.now c.requires c.loop-f.f c.args.todo.now.0 c.loop-f.todo.0 c.loop-f-test.false
    c.loop-f.invariant
