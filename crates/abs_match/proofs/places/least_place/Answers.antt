use Rattle.std.proofs.Common.{◌≡◌, ◌∙◌, ◌+◌, ◌<◌, ℕ, List, length, Option, Some, refl, sym, subst, arith}
use Rattle.std.proofs.lemmas.Option.{slice_get_read}
use Rattle.abs_match.specs.inner.Matching.{IsLeastOf, FirstMeet, FramesMeet}
use Rattle.abs_match.proofs.Leasts.{next_asked, frame_asked, turned}
use Rattle.abs_match.proofs.places.least_place.Goals as goal

pub loop-f-preserved : goal.loop-f-preserved
loop-f-preserved c =
    let low : c.loop-f.f < length c.args.ours.now = omega (arith, c.loop-f-test.true, c.requires.count) in
    let one = frame_asked c.args.entries.now c.args.theirs.now c.args.ours.now c.loop-f.f c.index-theirs-f.result
    c.index-ours-f.result c.least_in_frame.result
    (slice_get_read c.args.theirs.now (length c.args.theirs.now) c.loop-f.f c.index-theirs-f.result refl c.loop-f-test.true
    c.index-theirs-f.is) (slice_get_read c.args.ours.now (length c.args.ours.now) c.loop-f.f c.index-ours-f.result refl low
    c.index-ours-f.is) c.least_in_frame.ensures in
    subst (λ (r : Option ℕ). IsLeastOf
    (FirstMeet (FramesMeet c.args.entries.now c.args.theirs.now c.args.ours.now) (c.loop-f.f + 1)) r) (sym c.lower_of-least.ensures)
    (next_asked (FramesMeet c.args.entries.now c.args.theirs.now c.args.ours.now) c.loop-f.f c.loop-f.least c.least_in_frame.result
    c.loop-f.invariant one)

pub returns : goal.returns
returns c =
    let l = c.loop-f-test.false in
    turned (FirstMeet (FramesMeet c.args.entries.now c.args.theirs.now c.args.ours.now) c.loop-f.f)
    (FirstMeet (FramesMeet c.args.entries.now c.args.theirs.now c.args.ours.now) (length c.args.theirs.now)) c.loop-f.least
    (λ id all n low. all n (omega (arith, low, l)))
    (λ id all n low. let k = c.loop-f.auto.f-end in all n (omega (arith, low, k)))
    c.loop-f.invariant
