use Rattle.std.proofs.Common.{◌-◌, drop}
use Rattle.term_enc.specs.inner.Counting.{pattern_in}
use Rattle.term_enc.proofs.Built.{ArePassed}
use Rattle.term_enc.proofs.building.+pattern.Given as goal

abbrev pub decreases-pattern : goal.decreases-pattern
decreases-pattern l = l.depth

abbrev pub invariant-loop-child : goal.invariant-loop-child
invariant-loop-child l = ArePassed (pattern_in (l.fn.depth - 1) l.fn.cells) l.child-items l.children.items
    (drop l.child-index l.child-items)
