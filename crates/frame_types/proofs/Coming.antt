-- What a frame makes of an entry.
use Rattle.std.proofs.Common.{◌≡◌, ℕ, Option, Some, None, refl, sym, subst, ap, ◌∙◌}
use Rattle.jvm_values.specs.States.{PlaceTypes}
use Rattle.jvm_values.specs.TypedHeaps.{WorldTypes, AreLawful}
use Rattle.frame_types.specs.Places.{IsFrameWithin, IsProper}
use Rattle.frame_types.specs.declared.merges.Coming.{Coming}
use Rattle.frame_types.specs.declared.merges.Coming.TheVariants as comings
use Rattle.frame_types.specs.Joins.{IsFrameJoin, AreFramesApart, IsMergedAs}
use Rattle.frame_types.specs.Growth.{IsMerged, IsApart, IsComing}
use Rattle.frame_types.proofs.GrowthLaws.{frame_refl}
use Rattle.jvm_values.proofs.Options.{some_is}

module _ (types : WorldTypes) (laws : AreLawful types) (max_locals : ℕ) where
  pub first : (before : Option PlaceTypes) (more new : PlaceTypes) → before ≡ None → new ≡ more → IsProper types max_locals more
      → IsMerged types max_locals before more new
  first before more new n e p = subst (IsMerged types max_locals before more) (sym e) (record {
    proper = p;
    left = λ frame (f : before ≡ Some frame). cc;
    right = frame_refl types laws max_locals more p;
    least = λ top t old h. h;
  })

  pub merged : (before : Option PlaceTypes) (old more new : PlaceTypes) → before ≡ Some old
      → IsFrameJoin types max_locals old more new → IsMerged types max_locals before more new
  merged before old more new b h = record {
    proper = h.proper;
    left = λ frame f. subst (λ (x : PlaceTypes). IsFrameWithin types x new) (some_is (sym b ∙ f)) h.left;
    right = h.right;
    least = λ top t old_within more_within. h.least top t (old_within old b) more_within;
  }

  pub apart : (before : Option PlaceTypes) (old more : PlaceTypes) → before ≡ Some old → AreFramesApart types max_locals old more
      → IsApart types max_locals before more
  apart before old more b h top t old_within more_within = h top t (old_within old b) more_within

  pub answered : (coming : Coming) (before : Option PlaceTypes) (old more new : PlaceTypes) → before ≡ Some old
      → IsMergedAs types max_locals old more new coming → IsComing types max_locals before more (Some new) coming
  answered comings.Same before old more new b h = (new, (refl, merged before old more new b h.0, ap Some h.1 ∙ sym b))
  answered comings.Grew before old more new b h = (new, (refl, merged before old more new b h.0, λ e. h.1 (some_is (e ∙ b))))
  answered comings.Apart before old more new b h = apart before old more b h
