-- The first nodes of a graph, and one more.
use Rattle.std.proofs.Common.{◌≡◌, ◌∙◌, ◌<◌, ◌≤◌, ◌+◌, ◌^◌, ◌-◌, ℕ, zero, suc, List, [], ◌∷◌, ◌++◌, length, take, Some, slice_get, refl, sym, ap, subst, arith}
use Rattle.std.proofs.lemmas.Option.{none-some, same_Some}
use Rattle.list_views.proofs.Orders.{one_more}
use Rattle.term_graph.specs.Graphs.{GraphNode}

taken_suc : (nodes : List GraphNode) (n : ℕ) (node : GraphNode) → slice_get nodes n ≡ Some node
    → take (suc n) nodes ≡ take n nodes ++ node ∷ []
taken_suc [] n node e = absurd (none-some node e)
taken_suc (x ∷ nodes) zero node e = ap (λ (y : GraphNode). y ∷ []) (same_Some x node e)
taken_suc (x ∷ nodes) (suc n) node e = ap (λ (l : List GraphNode). x ∷ l) (taken_suc nodes n node e)

pub one_taken : (nodes graph more : List GraphNode) (n : ℕ) (node : GraphNode) → graph ≡ take n nodes → slice_get nodes n ≡ Some node
    → more ≡ graph ++ node ∷ [] → more ≡ take (n + 1) nodes
one_taken nodes graph more n node so there made =
    made ∙ (ap (λ (l : List GraphNode). l ++ node ∷ []) so
    ∙ (sym (taken_suc nodes n node there) ∙ ap (λ (k : ℕ). take k nodes) (one_more n)))

all_of : (nodes : List GraphNode) (n : ℕ) → length nodes ≤ n → take n nodes ≡ nodes
all_of [] zero l = refl
all_of [] (suc n) l = refl
all_of (x ∷ nodes) zero l = absurd (omega (arith, l))
all_of (x ∷ nodes) (suc n) l = ap (λ (l : List GraphNode). x ∷ l) (all_of nodes n (omega (arith, l)))

pub all_taken : (nodes graph : List GraphNode) (n : ℕ) → graph ≡ take n nodes → length nodes ≤ n → graph ≡ nodes
all_taken nodes graph n so l = so ∙ all_of nodes n l

short : (nodes : List GraphNode) (n : ℕ) → length (take n nodes) ≤ length nodes
short [] zero = omega arith
short [] (suc n) = omega arith
short (x ∷ nodes) zero = omega arith
short (x ∷ nodes) (suc n) = let l = short nodes n in omega (arith, l)

pub still_few : (nodes graph : List GraphNode) (n : ℕ) → graph ≡ take n nodes → length nodes ≤ 20000 → length graph < 2 ^ 32 - 16
still_few nodes graph n so few =
    let l = short nodes n in
    subst (λ (g : List GraphNode). length g < 2 ^ 32 - 16) (sym so) (omega (arith, l, few))
