use Rattle.std.proofs.Common.{◌≡◌, ◌++◌, drop}
use Rattle.descent.specs.Steps.{without}
use Rattle.bound_check.proofs.parts.without.Given as goal

abbrev pub invariant-loop-other : goal.invariant-loop-other
invariant-loop-other l = l.less ++ without l.rule (drop l.other-index l.set) ≡ without l.rule l.set
