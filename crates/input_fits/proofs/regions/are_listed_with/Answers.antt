use Rattle.std.proofs.Common.{◌∙◌, sym}
use Rattle.std.proofs.lemmas.Bool.{false≢true}
use Rattle.input_fits.specs.inner.Words.{HaveCommon}
use Rattle.input_fits.proofs.Meeting.{one_listed, not_listed}
use Rattle.input_fits.proofs.regions.are_listed_with.Goals as goal

pub returns-then-not-may_share : goal.returns-then-not-may_share
returns-then-not-may_share c = (
  λ e. absurd (false≢true e),
  λ h. absurd (not_listed HaveCommon c.args.lists.now c.args.pairs.now c.args.i c.loop-j.j _ _ _ _ c.loop-j-test.true c.requires.place (c.as_slice.ensures ∙ c.index-lists-j.is) (c.as_slice-in-loop-j.ensures ∙ c.index-lists-i.is)
      (λ may. false≢true (sym c.if-not-may_share.true ∙ c.may_share.ensures.1 may)) h),
)

pub loop-j-preserved : goal.loop-j-preserved
loop-j-preserved c = one_listed HaveCommon c.args.lists.now c.args.pairs.now c.args.i c.loop-j.j _ _ _ _ (c.as_slice.ensures ∙ c.index-lists-j.is) (c.as_slice-in-loop-j.ensures ∙ c.index-lists-i.is)
    (c.may_share.ensures.0 c.if-not-may_share.false) c.loop-j.invariant
