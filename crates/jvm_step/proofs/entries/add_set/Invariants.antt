use Rattle.std.proofs.Common.{◌≡◌, ◌++◌, map, drop, Some}
use Rattle.jvm_step.proofs.entries.add_set.Given as goal

-- what is there and what is to come are all
abbrev pub invariant-loop-value : goal.invariant-loop-value
invariant-loop-value l = l.locals ++ map Some (drop l.value-index l.values) ≡ l.initial.locals ++ map Some l.values
