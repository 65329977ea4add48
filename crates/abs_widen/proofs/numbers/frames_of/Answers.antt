use Rattle.std.proofs.Common.{◌≡◌, ◌∙◌, List, reverse, ap}
use Rattle.std.proofs.lemmas.Result.{IfOk-weaker}
use Rattle.std.proofs.lemmas.List.Elements.{length_all_zip}
use Rattle.abs_cells.specs.AbstractStates.{AbstractFrame}
use Rattle.abs_widen.specs.Widening.{merged_frame, merged_frames}
use Rattle.abs_widen.specs.inner.Visiting.{AreAsLong}
use Rattle.abs_widen.proofs.Zips.{all_reversed_as, mapped_reversed}
use Rattle.abs_widen.proofs.numbers.frames_of.Goals as goal

pub merged_frames-requires-clause-long : goal.merged_frames-requires-clause-long
merged_frames-requires-clause-long g c = all_reversed_as AreAsLong c.args.a.now.frames c.args.b.now.frames c.frames.result.now
    c.frames-2.result.now c.frames.ensures c.frames-2.ensures c.requires.long

pub returns : goal.returns
returns g c =
    IfOk-weaker c.merged_frames.result
    (λ frames. frames ≡ merged_frames c.args.a.now c.args.b.now c.args.pairs.now c.frames.result.now c.frames-2.result.now)
    (λ frames. reverse frames ≡ merged_frames c.args.a.now c.args.b.now c.args.pairs.now c.args.a.now.frames c.args.b.now.frames)
    (λ frames e.
    ap reverse (e
    ∙ ap (λ (l : List AbstractFrame). merged_frames c.args.a.now c.args.b.now c.args.pairs.now l c.frames-2.result.now) c.frames.ensures
    ∙ ap (λ (l : List AbstractFrame). merged_frames c.args.a.now c.args.b.now c.args.pairs.now (reverse c.args.a.now.frames) l)
    c.frames-2.ensures)
    ∙ mapped_reversed (λ both. merged_frame c.args.a.now c.args.b.now c.args.pairs.now both.0 both.1) c.args.a.now.frames
    c.args.b.now.frames (length_all_zip AreAsLong c.args.a.now.frames c.args.b.now.frames c.requires.long))
    c.merged_frames.ensures
