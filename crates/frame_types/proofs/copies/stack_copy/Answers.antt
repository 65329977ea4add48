use Rattle.std.proofs.Common.{◌≡◌, length, reverse, arith, ap}
use Rattle.frame_types.proofs.StackCopies.{whole}
use Rattle.frame_types.proofs.copies.stack_copy.Goals as goal

pub returns : goal.returns
returns c =
    let e : c.loop-place.place-index ≡ length (reverse c.args.stack.now.0) = omega (arith, ap length c.as_slice-place-items.ensures) in
    whole _ _ _ e c.loop-place.invariant
