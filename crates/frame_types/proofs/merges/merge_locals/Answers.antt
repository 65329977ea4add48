use Rattle.std.proofs.Common.{◌<◌, length, refl, sym, ◌∙◌, arith}
use Rattle.std.proofs.lemmas.Bool.{false≢true}
use Rattle.frame_types.proofs.Merging.{next_is, stays_so}
use Rattle.frame_types.proofs.merges.merge_locals.Goals as goal
use Rattle.frame_types.proofs.merges.merge_locals.Goals.{then-not-same, else-not-same}

pub loop-i-preserved : goal.loop-i-preserved
loop-i-preserved g c =
    let l : c.loop-i.i < length c.loop-i.locals = omega (arith, c.requires.long, c.loop-i.invariant.below.long) in
    elim c.if-not-same.branch [
      | then-not-same w ↦ next_is _ _ _ _ _ _ _ _ _ _ _ l c.loop-i.invariant c.at-here.ensures refl c.join_places-joined.ensures
          (λ e. absurd (false≢true (sym w.if-not-same.true ∙ c.is_same-same.ensures.1 e))) w.locals-is w.grew-is
      | else-not-same w ↦ stays_so _ _ _ _ _ _ _ _ _ _ _ l c.loop-i.invariant c.at-here.ensures refl c.join_places-joined.ensures
          (c.is_same-same.ensures.0 w.if-not-same.false) w.locals-is w.grew-is
    ]
