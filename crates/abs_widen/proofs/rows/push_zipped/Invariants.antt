use Rattle.std.proofs.Common.{◌≡◌, ◌≤◌, ◌++◌, drop, length, zip}
use Rattle.abs_widen.proofs.rows.push_zipped.Given as goal

abbrev pub invariant-loop-n : goal.invariant-loop-n
invariant-loop-n l = (l.n ≤ length l.ids)
    × ((l.n ≤ length l.more) × (l.todo.0 ≡ zip (drop l.n l.ids) (drop l.n l.more) ++ l.initial.todo.0))

-- proposed from the loop's first test
abbrev pub decreases-loop-n : goal.decreases-loop-n
decreases-loop-n l = l.n
