use Rattle.std.proofs.Common.{◌≡◌, ℕ, ◌≤◌, take}
use Rattle.std.specs.List.{list_any}
use Rattle.abs_cells.specs.IdSets.{has_id}
use Rattle.abs_reach.specs.inner.Turns.{IsBegun}
use Rattle.abs_reach.proofs.Beginning.{is_start}
use Rattle.abs_reach.proofs.walk.begin_at_all.Given as goal

abbrev pub invariant-loop-id : goal.invariant-loop-id
invariant-loop-id l = record {
  begun : IsBegun l.cells l.found l.trail.0;
  met : (n : ℕ) → has_id l.found.met n ≡ list_any (is_start l.starts n) (take l.id-index l.cells);
  space : 2048 ≤ l.trail.1;
}
