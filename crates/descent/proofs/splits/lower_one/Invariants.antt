use Rattle.std.proofs.Common.{◌≡◌, drop}
use Rattle.descent.specs.inner.Placed.{lower_among}
use Rattle.descent.proofs.splits.lower_one.Given as goal

abbrev pub invariant-loop-next : goal.invariant-loop-next
invariant-loop-next l = lower_among l.rules l.rule l.place (drop l.next-index l.placed) ≡ lower_among l.rules l.rule l.place l.placed
