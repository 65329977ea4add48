use Rattle.std.proofs.Common.{◌≡◌, ℕ, ◌<◌, ◌||◌, drop}
use Rattle.std.specs.List.{list_any}
use Rattle.abs_cells.specs.IdSets.{has_id}
use Rattle.abs_reach.proofs.Dropped.{local_is}
use Rattle.abs_reach.proofs.dropping.put_locals.Given as goal

abbrev pub invariant-loop-local : goal.invariant-loop-local
invariant-loop-local l = (n : ℕ) → n < 2048
    → (has_id l.set n || list_any (local_is n) (drop l.local-index l.locals)) ≡ (has_id l.initial.set n || list_any (local_is n) l.locals)
