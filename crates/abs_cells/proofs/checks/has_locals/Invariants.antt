use Rattle.std.proofs.Common.{◌≡◌, drop}
use Rattle.std.specs.List.{list_all}
use Rattle.abs_cells.specs.IdSets.{has_id}
use Rattle.abs_cells.specs.Sound.{given_ids}
use Rattle.abs_cells.proofs.checks.has_locals.Given as goal

abbrev pub invariant-loop-local : goal.invariant-loop-local
invariant-loop-local l = list_all (has_id l.set) (given_ids (drop l.local-index l.locals)) ≡ list_all (has_id l.set) (given_ids l.locals)
