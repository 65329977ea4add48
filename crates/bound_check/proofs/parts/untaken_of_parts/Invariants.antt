use Rattle.std.proofs.Common.{◌≡◌, ◌+◌, drop}
use Rattle.bound_check.specs.inner.Words.{untaken_of_parts}
use Rattle.bound_check.proofs.parts.untaken_of_parts.Given as goal

abbrev pub invariant-loop-step : goal.invariant-loop-step
invariant-loop-step l = l.count + untaken_of_parts l.counts (drop l.step-index l.steps) ≡ untaken_of_parts l.counts l.steps
