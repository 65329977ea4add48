use Rattle.std.proofs.Common.{◌∙◌, refl, sym}
use Rattle.std.proofs.lemmas.Bool.{false≢true}
use Rattle.std.proofs.lemmas.Slice.Zip.{AllZip-long}
use Rattle.class_world.specs.Worlds.{classes_of}
use Rattle.class_world.specs.WorldTypes.{types_of}
use Rattle.input_desc.specs.Fitting.{FitsInput}
use Rattle.input_fits.proofs.Pairing.{one_more, all_meet, meet_at}
use Rattle.input_fits.proofs.inputs.all_fit.Goals as goal

pub returns-then-inputs-values : goal.returns-then-inputs-values
returns-then-inputs-values c = (
  λ e. absurd (false≢true e),
  λ h.
      let long = AllZip-long (FitsInput (types_of (classes_of c.args.world.now)) c.args.heap.now) c.args.inputs.now c.args.values.now h in
      absurd (c.if-inputs-values.true (sym long)),
)

pub returns-then-not-fits : goal.returns-then-not-fits
returns-then-not-fits c = (
  λ e. absurd (false≢true e),
  λ h.
      let here = meet_at (FitsInput (types_of (classes_of c.args.world.now)) c.args.heap.now) c.args.inputs.now c.args.values.now
      c.loop-n.n c.index-inputs-n.result c.index-inputs-n.result _ _ c.loop-n-test.true c.if-inputs-values.false c.index-inputs-n.is
      refl h in
      absurd (false≢true (sym c.if-not-fits.true ∙ c.in_ok-fits.ensures.1 here)),
)

pub loop-n-preserved : goal.loop-n-preserved
loop-n-preserved c = one_more (FitsInput (types_of (classes_of c.args.world.now)) c.args.heap.now) c.args.inputs.now c.args.values.now
    c.loop-n.n c.index-inputs-n.result c.index-inputs-n.result _ _ c.index-inputs-n.is refl (c.in_ok-fits.ensures.0 c.if-not-fits.false)
    c.loop-n.invariant

pub returns : goal.returns
returns c = (
  λ e. all_meet (FitsInput (types_of (classes_of c.args.world.now)) c.args.heap.now) c.args.inputs.now c.args.values.now c.loop-n.n
      c.if-inputs-values.false c.loop-n-test.false c.loop-n.invariant,
  λ h. refl,
)
