use Rattle.std.proofs.Common.{◌≡◌, drop, None}
use Rattle.lin_core.specs.Sums.{variables}
use Rattle.bound_check.specs.Entries.{entries_fault}
use Rattle.bound_check.proofs.entries.entries_fault.Given as goal

abbrev pub invariant-loop-n : goal.invariant-loop-n
invariant-loop-n l = record {
  fault : entries_fault l.rules l.steps l.n l.before (drop l.n l.entries) ≡ entries_fault l.rules l.steps 0 None l.entries;
  over : variables l.scratch ≡ variables l.initial.scratch;
}
