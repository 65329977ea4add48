use Rattle.std.proofs.Common.{◌∙◌, refl, sym}
use Rattle.std.proofs.lemmas.Bool.{false≢true}
use Rattle.input_fits.specs.inner.Words.{NameOne}
use Rattle.input_fits.proofs.Meeting.{one_listed, not_listed}
use Rattle.input_fits.proofs.listed.are_listed_with.Goals as goal

pub returns-then-not-may_be_one : goal.returns-then-not-may_be_one
returns-then-not-may_be_one c = (
  λ e. absurd (false≢true e),
  λ h. absurd (not_listed NameOne c.args.values.now c.args.pairs.now c.args.i c.loop-j.j _ _ _ _ c.loop-j-test.true c.requires refl refl
      (λ may. false≢true (sym c.if-not-may_be_one.true ∙ c.may_be_one.ensures.1 may)) h),
)

pub loop-j-preserved : goal.loop-j-preserved
loop-j-preserved c = one_listed NameOne c.args.values.now c.args.pairs.now c.args.i c.loop-j.j _ _ _ _ refl refl
    (c.may_be_one.ensures.0 c.if-not-may_be_one.false) c.loop-j.invariant
