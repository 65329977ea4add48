use Rattle.std.proofs.Common.{◌≡◌, ◌↔◌, ℕ, true}
use Rattle.abs_cells.specs.IdSets.{has_id}
use Rattle.abs_match.proofs.Partners.{FirstApart}
use Rattle.abs_match.proofs.apart.apart_images.Given as goal

abbrev pub invariant-loop-place : goal.invariant-loop-place
invariant-loop-place g l = (m : ℕ) → (has_id l.images m ≡ true) ↔ FirstApart l.cells l.entries (g.P.Pairs.pairs l.pairs) l.sort l.id
    l.place m
