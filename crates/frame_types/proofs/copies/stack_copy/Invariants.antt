use Rattle.std.proofs.Common.{◌≡◌, reverse, take}
use Rattle.frame_types.proofs.copies.stack_copy.Given as goal

abbrev pub invariant-loop-place : goal.invariant-loop-place
invariant-loop-place l = reverse l.copy.0 ≡ take l.place-index (reverse l.stack.0)
