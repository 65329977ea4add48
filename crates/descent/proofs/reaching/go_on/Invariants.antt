use Rattle.std.proofs.Common.{◌≡◌, drop}
use Rattle.descent.specs.inner.Spreading.{spread}
use Rattle.descent.proofs.reaching.go_on.Given as goal

abbrev pub invariant-loop-rule : goal.invariant-loop-rule
invariant-loop-rule l = spread l.next (drop l.rule-index l.group) (l.marks.items, (l.seen.items, l.todo)) ≡ spread l.next l.group
    (l.initial.marks.items, (l.initial.seen.items, l.initial.todo))
