use Rattle.std.proofs.Common.{◌≤◌, ◌^◌, drop}
use Rattle.lin_core.specs.Weights.{total_size}
use Rattle.table_cases.proofs.rule_cases.limits.are_light.Given as goal

abbrev pub invariant-loop-multiple : goal.invariant-loop-multiple
invariant-loop-multiple l = total_size (drop l.multiple-index l.terms) ≤ l.room → total_size l.terms ≤ 2 ^ 40
