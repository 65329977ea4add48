-- The nodes that nodes lead to, node by node.
use Rattle.std.proofs.Common.{◌≡◌, ℕ, zero, suc, ◌+◌, ◌≤◌, List, [], ◌∷◌, ◌++◌, length, take, Some, ap}
use Rattle.std.proofs.Common.{arith, refl, ◌∙◌, sym}
use Rattle.std.specs.Prelude.{slice_get}
use Rattle.std.specs.Option.{option_map}
use Rattle.std.proofs.lemmas.Option.{none-some}
use Rattle.list_views.proofs.Orders.{one_more}
use Rattle.jvm_values.proofs.Options.{some_is}
use Rattle.term_graph.specs.declared.nodes.By.{By}
use Rattle.term_graph.specs.Graphs.{GraphNode, successors}
use Rattle.path_rules.specs.Successors.{lists_of}

-- a node of that number is left so
abbrev pub IsLeft : List GraphNode → ℕ → By → Type 0
IsLeft graph n by = option_map (λ (node : GraphNode). node.by) (slice_get graph n) ≡ Some by

one_taken : (graph : List GraphNode) (n : ℕ) (by : By) → IsLeft graph n by
    → lists_of (take (suc n) graph) ≡ lists_of (take n graph) ++ successors by ∷ []
one_taken [] n by e = absurd (none-some by e)
one_taken (x ∷ graph) zero by e = ap (λ (b : By). successors b ∷ []) (some_is e)
one_taken (x ∷ graph) (suc n) by e = ap (λ (l : List (List ℕ)). successors x.by ∷ l) (one_taken graph n by e)

pub one_listed : (graph : List GraphNode) (n : ℕ) (by : By) (lists more : List (List ℕ)) (list : List ℕ)
    → lists ≡ lists_of (take n graph) → IsLeft graph n by → list ≡ successors by → more ≡ lists ++ list ∷ []
    → more ≡ lists_of (take (n + 1) graph)
one_listed graph n by lists more list so there is made =
    made
    ∙ (ap (λ (l : List (List ℕ)). l ++ list ∷ []) so
    ∙ (ap (λ (l : List ℕ). lists_of (take n graph) ++ l ∷ []) is
    ∙ (sym (one_taken graph n by there) ∙ ap (λ (k : ℕ). lists_of (take k graph)) (one_more n))))

pub all_taken : (graph : List GraphNode) (n : ℕ) → length graph ≤ n → take n graph ≡ graph
all_taken [] zero l = refl
all_taken [] (suc n) l = refl
all_taken (x ∷ graph) zero l = absurd (omega (arith, l))
all_taken (x ∷ graph) (suc n) l = ap (λ (g : List GraphNode). x ∷ g) (all_taken graph n (omega (arith, l)))

pub all_listed : (graph : List GraphNode) (n : ℕ) (lists : List (List ℕ)) → lists ≡ lists_of (take n graph) → length graph ≤ n
    → lists ≡ lists_of graph
all_listed graph n lists so l = so ∙ ap lists_of (all_taken graph n l)
