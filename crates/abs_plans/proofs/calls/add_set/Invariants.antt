use Rattle.std.proofs.Common.{◌≡◌, ◌++◌, map, drop, Some}
use Rattle.abs_plans.proofs.calls.add_set.Given as goal

-- what is there and what is to come are all
abbrev pub invariant-loop-id : goal.invariant-loop-id
invariant-loop-id l = l.locals ++ map Some (drop l.id-index l.ids) ≡ l.initial.locals ++ map Some l.ids
