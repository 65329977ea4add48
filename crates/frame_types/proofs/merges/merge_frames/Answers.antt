use Rattle.std.proofs.Common.{◌≡◌, length, inl, inr, ap, arith}
use Rattle.jvm_values.specs.States.{PlaceTypes}
use Rattle.frame_types.proofs.Merging.{frames_joined, same_frame}
use Rattle.frame_types.proofs.merges.merge_frames.Goals as goal

pub returns-then-stack : goal.returns-then-stack
returns-then-stack g c =
    let even : length c.args.more.now.stack.0 ≡ length c.args.frame.now.stack.0 = omega
    (arith, c.len.ensures, c.len-2.ensures, c.if-len.false) in
    let l = rw c.as_slice.ensures at c.merge_locals-locals.ensures.joins in (
      frames_joined _ _ _ _ _ c.requires.old c.requires.more even l c.in-Some.ensures.joins c.in-Some.ensures.set,
      λ e. elim c.if-stack.either [
        | inl l ↦ c.merge_locals-locals.ensures.grew l (ap (λ (f : PlaceTypes). f.locals) e)
        | inr k ↦ c.merge_stack.ensures.grew (cc (c.in-Some.is, k.1)) (ap (λ (f : PlaceTypes). f.stack) e)
      ],
    )

pub returns-else-stack : goal.returns-else-stack
returns-else-stack g c =
    let even : length c.args.more.now.stack.0 ≡ length c.args.frame.now.stack.0 = omega
    (arith, c.len.ensures, c.len-2.ensures, c.if-len.false) in
    let l = rw c.as_slice.ensures at c.merge_locals-locals.ensures.joins in (
      frames_joined _ _ _ _ _ c.requires.old c.requires.more even l c.in-Some.ensures.joins c.in-Some.ensures.set,
      same_frame _ _ (c.merge_locals-locals.ensures.same c.if-stack.false.0)
          (c.merge_stack.ensures.same (cc (c.in-Some.is, c.if-stack.false.1))),
    )
