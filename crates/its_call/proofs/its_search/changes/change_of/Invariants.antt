use Rattle.std.proofs.Common.{◌≡◌, drop}
use Rattle.its_call.specs.its_search.Changes.{change_of}
use Rattle.its_call.proofs.its_search.changes.change_of.Given as goal

abbrev pub invariant-loop-row : goal.invariant-loop-row
invariant-loop-row l = change_of l.count l.variable (drop l.row-index l.rows) ≡ change_of l.count l.variable l.rows
