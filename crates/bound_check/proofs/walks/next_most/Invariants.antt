use Rattle.std.proofs.Common.{◌≡◌, ◌++◌, drop}
use Rattle.bound_check.specs.inner.Walking.{next_most}
use Rattle.bound_check.proofs.walks.next_most.Given as goal

abbrev pub invariant-loop-n : goal.invariant-loop-n
invariant-loop-n l = l.next ++ next_most l.marks l.ends l.links.nodes l.most l.n (drop l.n l.lists)
    ≡ next_most l.marks l.ends l.links.nodes l.most 0 l.lists
