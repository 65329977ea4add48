use Rattle.std.proofs.Common.{◌≡◌, ℕ, ◌<◌, ◌==◌, ◌||◌, drop}
use Rattle.std.specs.List.{list_any}
use Rattle.abs_cells.specs.IdSets.{has_id}
use Rattle.abs_reach.proofs.dropping.put_ids.Given as goal

abbrev pub invariant-loop-id : goal.invariant-loop-id
invariant-loop-id l = (n : ℕ) → n < 2048
    → (has_id l.set n || list_any (λ x. x == n) (drop l.id-index l.ids)) ≡ (has_id l.initial.set n || list_any (λ x. x == n) l.ids)
