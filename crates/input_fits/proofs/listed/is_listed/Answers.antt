use Rattle.std.proofs.Common.{◌∙◌, refl, sym}
use Rattle.std.proofs.lemmas.Bool.{false≢true}
use Rattle.input_fits.proofs.Listing.{listed_here, listed_behind, none_behind}
use Rattle.input_fits.proofs.listed.is_listed.Goals as goal

pub returns-then-is_pair_of : goal.returns-then-is_pair_of
returns-then-is_pair_of c = (
  λ e. listed_here c.args.i c.args.j c.loop-pair.pair-index c.args.pairs.now _ (0, 0) c.loop-pair-test.true refl
      (c.is_pair_of.ensures.0 c.if-is_pair_of.true),
  λ h. refl,
)

pub loop-pair-preserved : goal.loop-pair-preserved
loop-pair-preserved c h = listed_behind c.args.i c.args.j c.loop-pair.pair-index c.args.pairs.now _ (0, 0) c.loop-pair-test.true refl
    (λ is. false≢true (sym c.if-is_pair_of.false ∙ c.is_pair_of.ensures.1 is)) (c.loop-pair.invariant h)

pub returns : goal.returns
returns c = (
  λ e. absurd (false≢true e),
  λ h. absurd (none_behind c.args.i c.args.j c.loop-pair.pair-index c.args.pairs.now c.loop-pair-test.false (c.loop-pair.invariant h)),
)
