-- Where ranks fall along the edges to nodes that are no cuts, each node has its ways.
use Rattle.std.proofs.Common.{◌≡◌, inl, inr, ℕ, zero, suc, ◌<◌, Bool, true, false, cond, List, [], ◌∷◌, ◌++◌, map, get_or}
use Rattle.std.proofs.Common.{ap, arith, refl, ◌∙◌}
use Rattle.number_graphs.specs.Lists.{Has, row_at, Fall}
use Rattle.path_rules.specs.Successors.{has_mark, inner_row}
use Rattle.path_rules.specs.inner.Ways.{ways_by, ways_within, ways_of, AreWays}
use Rattle.path_rules.proofs.Counted.{ways_over, inner_edge}

-- rows have the same ways where their nodes have
pub same_by : (f g : ℕ → List (List ℕ)) (marks : List Bool) (place : ℕ) (row : List ℕ)
    → ((to : ℕ) → Has row to → has_mark marks to ≡ false → f to ≡ g to) → ways_by f marks place row ≡ ways_by g marks place row
same_by f g marks place [] same = refl
same_by f g marks place (to ∷ row) same =
    ap (λ (w : List (List ℕ)). map (λ (way : List ℕ). place ∷ way) w ++ ways_by f marks (suc place) row) (at (has_mark marks to) refl)
    ∙ ap (λ (w : List (List ℕ)). map (λ (way : List ℕ). place ∷ way) (ways_over g marks to) ++ w)
    (same_by f g marks (suc place) row (λ t h. same t (inr h)))
  where
    at : (b : Bool) → has_mark marks to ≡ b → cond b ([] ∷ []) (f to) ≡ cond b ([] ∷ []) (g to)
    at true e = refl
    at false e = same to (inl refl) e

-- above the rank nothing changes
steady : (lists : List (List ℕ)) (marks : List Bool) (ranks : List ℕ) → Fall (map (inner_row marks) lists) ranks → (d e node : ℕ)
    → get_or ranks node 0 < d → get_or ranks node 0 < e → ways_within lists marks d node ≡ ways_within lists marks e node
steady lists marks ranks fall zero e node l m = absurd (omega (arith, l))
steady lists marks ranks fall (suc d) zero node l m = absurd (omega (arith, m))
steady lists marks ranks fall (suc d) (suc e) node l m = same_by (ways_within lists marks d) (ways_within lists marks e) marks 0
    (row_at lists node) (λ to h k.
    let low = fall node to (inner_edge lists marks node to h k) in
    steady lists marks ranks fall d e to (omega (arith, low, l)) (omega (arith, low, m)))

pub ways_are : (lists : List (List ℕ)) (marks : List Bool) (ranks : List ℕ) → Fall (map (inner_row marks) lists) ranks
    → AreWays lists marks (ways_of lists marks ranks)
ways_are lists marks ranks fall node = same_by (ways_within lists marks (get_or ranks node 0)) (ways_of lists marks ranks) marks 0
    (row_at lists node) (λ to h k.
    let low = fall node to (inner_edge lists marks node to h k) in
    steady lists marks ranks fall (get_or ranks node 0) (suc (get_or ranks to 0)) to low (omega arith))
