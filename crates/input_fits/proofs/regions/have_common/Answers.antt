use Rattle.std.proofs.Common.{◌∙◌, refl, sym}
use Rattle.std.proofs.lemmas.Bool.{false≢true}
use Rattle.input_fits.proofs.Rising.{none_more, none_common}
use Rattle.input_fits.proofs.regions.have_common.Goals as goal

pub loop-number-preserved : goal.loop-number-preserved
loop-number-preserved c = none_more c.args.a.now c.args.b.now c.loop-number.number-index _ refl
    (λ h. false≢true (sym c.if-has.false ∙ c.has.ensures.1 h)) c.loop-number.invariant

pub returns : goal.returns
returns c = (
  λ e. absurd (false≢true e),
  λ h. absurd (none_common c.args.a.now c.args.b.now c.loop-number.number-index c.loop-number-test.false c.loop-number.invariant h),
)
