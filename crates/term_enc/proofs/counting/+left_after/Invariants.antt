use Rattle.std.proofs.Common.{◌≡◌, ◌-◌, drop}
use Rattle.term_enc.specs.inner.Counting.{left_after, left_after_all}
use Rattle.term_enc.proofs.counting.+left_after.Given as goal

abbrev pub decreases-left_after : goal.decreases-left_after
decreases-left_after l = l.depth

abbrev pub invariant-loop-child : goal.invariant-loop-child
invariant-loop-child l = left_after_all (left_after (l.fn.depth - 1) l.fn.cells) (drop l.child-index l.child-items) l.left ≡ left_after_all
    (left_after (l.fn.depth - 1) l.fn.cells) l.child-items l.initial.left
