use Rattle.std.proofs.Common.{◌≡◌, ◌++◌, drop}
use Rattle.abs_plans.proofs.abs_rows.fields.push_all.Given as goal

abbrev pub invariant-loop-id : goal.invariant-loop-id
invariant-loop-id l = l.list ++ drop l.id-index l.more ≡ l.initial.list ++ l.more
