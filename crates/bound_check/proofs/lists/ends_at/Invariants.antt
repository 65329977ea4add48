use Rattle.std.proofs.Common.{◌≡◌, drop}
use Rattle.bound_check.specs.inner.Words.{ends_at}
use Rattle.bound_check.proofs.lists.ends_at.Given as goal

abbrev pub invariant-loop-number : goal.invariant-loop-number
invariant-loop-number l = ends_at l.rules (drop l.number-index l.set) l.cut ≡ ends_at l.rules l.set l.cut
