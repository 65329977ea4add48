use Rattle.std.proofs.Common.{◌≡◌, ◌∙◌, ◌+◌, ◌++◌, ℕ, List, drop, refl, sym, subst}
use Rattle.loop_check.specs.Loops.{idle_among}
use Rattle.loop_check.proofs.Waiting.{kept_by, passed_by}
use Rattle.loop_check.proofs.idling.idle_among.Goals as goal
use Rattle.loop_check.proofs.idling.idle_among.Goals.{then-not-is_step+in_ok-push, else-not-is_step}

pub loop-place-preserved : goal.loop-place-preserved
loop-place-preserved c = elim c.if-not-is_step.branch [
  | then-not-is_step+in_ok-push w ↦ kept_by c.args.links.now c.args.named.now c.loop-place.idle c.if-not-is_step.idle
      (idle_among c.args.links.now 0 c.args.named.now) c.loop-place.place _ c.loop-place-test.true refl
      (sym c.is_step.ensures ∙ w.if-not-is_step.true) (w.idle-is ∙ w.in_ok-push.ensures.items) c.loop-place.invariant
  | else-not-is_step w ↦ subst (λ (xs : List ℕ). xs ++ idle_among c.args.links.now (c.loop-place.place + 1)
      (drop (c.loop-place.place + 1) c.args.named.now) ≡ idle_among c.args.links.now 0 c.args.named.now) (sym w.idle-is)
      (passed_by c.args.links.now c.args.named.now c.loop-place.idle (idle_among c.args.links.now 0 c.args.named.now) c.loop-place.place
      c.loop-place-test.true (sym c.is_step.ensures ∙ w.if-not-is_step.false) c.loop-place.invariant)
]
