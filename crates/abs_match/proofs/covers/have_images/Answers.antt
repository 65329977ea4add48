use Rattle.std.proofs.Common.{◌≡◌, ◌∙◌, ◌<◌, length, Some, refl, sym, arith}
use Rattle.std.proofs.lemmas.Bool.{false≢true}
use Rattle.abs_reach.specs.Instances.{image_in}
use Rattle.abs_match.proofs.Covering.{image_is_true, image_is_from}
use Rattle.abs_match.proofs.Leasts.{next_value, all_values, value_differs}
use Rattle.abs_match.proofs.covers.have_images.Goals as goal

pub returns-then-not-has_image : goal.returns-then-not-has_image
returns-then-not-has_image c = (
  λ t. absurd (false≢true t),
  λ e. absurd (value_differs (image_in c.args.entries.now) Some c.args.ids.now c.args.images.now c.loop-place.place 0 0
      c.loop-place-test.true (omega (arith, c.loop-place-test.true, c.if-ids-images.false))
      (λ s. false≢true (sym c.if-not-has_image.true ∙ c.has_image.ensures ∙ image_is_from _ _ s)) e),
)

pub loop-place-preserved : goal.loop-place-preserved
loop-place-preserved c = next_value (image_in c.args.entries.now) Some c.args.ids.now c.args.images.now c.loop-place.place 0 0
    c.loop-place-test.true (omega (arith, c.loop-place-test.true, c.if-ids-images.false))
    (image_is_true _ _ (sym c.has_image.ensures ∙ c.if-not-has_image.false)) c.loop-place.invariant

pub returns : goal.returns
returns c = (
  λ t. all_values (image_in c.args.entries.now) Some c.args.ids.now c.args.images.now c.loop-place.place
      c.if-ids-images.false c.loop-place-test.false c.loop-place.invariant,
  λ e. refl,
)
