-- Which nodes are End nodes, node by node.
use Rattle.std.proofs.Common.{◌≡◌, ℕ, zero, suc, ◌+◌, ◌≤◌, Bool, List, [], ◌∷◌, ◌++◌, length, take, ap, arith, ◌∙◌, sym}
use Rattle.std.proofs.lemmas.Option.{none-some}
use Rattle.list_views.proofs.Orders.{one_more}
use Rattle.jvm_values.proofs.Options.{some_is}
use Rattle.term_graph.specs.declared.nodes.By.{By}
use Rattle.term_graph.specs.Graphs.{GraphNode}
use Rattle.path_rules.proofs.Following.{IsLeft, all_taken}
use Rattle.bound_check.specs.inner.Walking.{is_end, ends_of}

one_taken : (graph : List GraphNode) (n : ℕ) (by : By) → IsLeft graph n by
    → ends_of (take (suc n) graph) ≡ ends_of (take n graph) ++ is_end by ∷ []
one_taken [] n by e = absurd (none-some by e)
one_taken (x ∷ graph) zero by e = ap (λ (b : By). is_end b ∷ []) (some_is e)
one_taken (x ∷ graph) (suc n) by e = ap (λ (l : List Bool). is_end x.by ∷ l) (one_taken graph n by e)

pub one_ended : (graph : List GraphNode) (n : ℕ) (by : By) (ends more : List Bool) (end : Bool)
    → ends ≡ ends_of (take n graph) → IsLeft graph n by → end ≡ is_end by → more ≡ ends ++ end ∷ []
    → more ≡ ends_of (take (n + 1) graph)
one_ended graph n by ends more end so there is made =
    made
    ∙ (ap (λ (l : List Bool). l ++ end ∷ []) so
    ∙ (ap (λ (b : Bool). ends_of (take n graph) ++ b ∷ []) is
    ∙ (sym (one_taken graph n by there) ∙ ap (λ (k : ℕ). ends_of (take k graph)) (one_more n))))

pub all_ended : (graph : List GraphNode) (n : ℕ) (ends : List Bool) → ends ≡ ends_of (take n graph) → length graph ≤ n
    → ends ≡ ends_of graph
all_ended graph n ends so l = so ∙ ap ends_of (all_taken graph n l)
