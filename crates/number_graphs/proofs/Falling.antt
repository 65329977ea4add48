-- Where every step leads to a lower rank, nothing is on a cycle.
use Rattle.std.proofs.Common.{◌≡◌, inl, inr, ℕ, ◌+◌, ◌<◌, ◌≤◌, length, true, List, [], ◌∷◌, get_or, subst, sym, arith, ap, ◌∙◌, Option}
use Rattle.std.specs.Option.{option_map_or}
use Rattle.std.proofs.lemmas.Option.{slice_get-get_or}
use Rattle.std.specs.Prelude.{nat_lt}
use Rattle.std.specs.List.{list_all}
use Rattle.std.proofs.lemmas.Bool.{and_parts, ltb-true, cases_eq}
use Rattle.number_graphs.specs.Graphs.{IsWay, IsOnCycle}
use Rattle.number_graphs.specs.Lists.{Has, row_at, Edge}
use Rattle.number_graphs.proofs.Cycles.{edge_within}

falls_along : (graph : List (List ℕ)) (ranks : List ℕ) → ((a b : ℕ) → Edge graph a b → get_or ranks b 0 < get_or ranks a 0)
    → (way : List ℕ) (a b : ℕ) → IsWay (Edge graph) a way b → get_or ranks b 0 < get_or ranks a 0
falls_along graph ranks low [] a b w = low a b w
falls_along graph ranks low (next ∷ way) a b w =
    let first = low a next w.0 in
    let rest = falls_along graph ranks low way next b w.1 in
    omega (arith, first, rest)

pub no_cycle : (graph : List (List ℕ)) (ranks : List ℕ) → ((a b : ℕ) → Edge graph a b → get_or ranks b 0 < get_or ranks a 0)
    → (a : ℕ) → IsOnCycle (Edge graph) a → ⊥
no_cycle graph ranks low a on = let k = falls_along graph ranks low on.0 a a on.1 in omega (arith, k)

-- the numbers of a list have lower ranks
pub lower_in : (ranks : List ℕ) (rank : ℕ) (row : List ℕ) (b : ℕ) → list_all (λ x. nat_lt (get_or ranks x 0) rank) row ≡ true
    → Has row b → get_or ranks b 0 < rank
lower_in ranks rank [] b e h = absurd h
lower_in ranks rank (x ∷ row) b e (inl s) = subst (λ (y : ℕ). get_or ranks y 0 < rank) s (ltb-true _ _ (and_parts _ _ e).0)
lower_in ranks rank (x ∷ row) b e (inr h) = lower_in ranks rank row b (and_parts _ _ e).1 h

abbrev pub FallsBelow : List (List ℕ) → List ℕ → ℕ → Type 0
FallsBelow graph ranks n = (a b : ℕ) → a < n → Edge graph a b → get_or ranks b 0 < get_or ranks a 0

-- one more list
pub falls_more : (graph : List (List ℕ)) (ranks : List ℕ) (n rank : ℕ) (row : List ℕ) → row_at graph n ≡ row
    → get_or ranks n 0 ≡ rank → list_all (λ x. nat_lt (get_or ranks x 0) rank) row ≡ true → FallsBelow graph ranks n
    → FallsBelow graph ranks (n + 1)
falls_more graph ranks n rank row is r lower below a b l e = elim (cases_eq a n) as (λ o. get_or ranks b 0 < get_or ranks a 0) [
  | inl s ↦
      let here : Has row b = subst (λ (x : List ℕ). Has x b) is (subst (λ (x : ℕ). Edge graph x b) s e) in
      let k = lower_in ranks rank row b lower here in
      subst (λ (x : ℕ). get_or ranks b 0 < get_or ranks x 0) (sym s) (subst (λ (x : ℕ). get_or ranks b 0 < x) (sym r) k)
  | inr d ↦ below a b (omega (arith, l, d)) e
]

-- all lists
pub falls_all : (graph : List (List ℕ)) (ranks : List ℕ) (n : ℕ) → length graph ≤ n → FallsBelow graph ranks n → (a b : ℕ)
    → Edge graph a b → get_or ranks b 0 < get_or ranks a 0
falls_all graph ranks n l below a b e = let k = edge_within graph a b e in below a b (omega (arith, k, l)) e

-- the list at a place
pub row_here : (graph : List (List ℕ)) (n : ℕ) (found row : List ℕ) → n < length graph → found ≡ get_or graph n found → row ≡ found
    → row_at graph n ≡ row
row_here graph n found row l e r = ap (λ (o : Option (List ℕ)). option_map_or (λ x. x) o []) (slice_get-get_or graph n found l)
    ∙ sym e ∙ sym r
