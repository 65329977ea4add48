use Rattle.std.proofs.Common.{◌≡◌, ◌++◌}
use Rattle.search_tries.proofs.building.append.Given as goal

abbrev pub invariant-loop-state : goal.invariant-loop-state
invariant-loop-state g l = l.states ≡ l.initial.states ++ l.yielded
