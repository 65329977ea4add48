-- Tests of cells, and what they say.
use Rattle.std.proofs.Common.{◌≡◌, ℕ, ◌≤ℤ◌, eqb, Bool, true, false, not, ◌&&◌, ◌||◌, IsTrue, List, Option, Some, None, ◌⊎◌, inl}
use Rattle.std.proofs.Common.{inr, ◌↔◌, ℤ, refl, sym, ap, subst, ◌∙◌}
use Rattle.std.proofs.lemmas.Bool.{false≢true, not-true, eqb-true, eq-eqb, and_parts, and_from, or_cases, or_left, or_right}
use Rattle.std.proofs.lemmas.Bool.{not_from_false, cases_Bool}
use Rattle.std.specs.Prelude.{int_le}
use Rattle.abs_match.specs.inner.Matching.{image_is}

pub image_is_true : (found : Option ℕ) (image : ℕ) → image_is found image ≡ true → found ≡ Some image
image_is_true None image e = absurd (false≢true e)
image_is_true (Some x) image e = ap Some (eqb-true x image e)

pub image_is_from : (found : Option ℕ) (image : ℕ) → found ≡ Some image → image_is found image ≡ true
image_is_from found image e = ap (λ (f : Option ℕ). image_is f image) e ∙ eq-eqb image image refl
