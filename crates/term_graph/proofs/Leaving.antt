-- A node that is left in another way.
use Rattle.std.proofs.Common.{◌≡◌, ℕ, zero, suc, ◌<◌, List, [], ◌∷◌, length, slice_index_or, ap, arith}
use Rattle.std.specs.Prelude.{slice_set}
use Rattle.term_graph.specs.declared.nodes.By.{By}
use Rattle.term_graph.specs.Graphs.{GraphNode, left_by}

pub set_is_left : (nodes : List GraphNode) (n : ℕ) (node : GraphNode) (by : By) → n < length nodes
    → node ≡ slice_index_or nodes n node → slice_set nodes n (record { state = node.state; by = by }) ≡ left_by nodes n by
set_is_left [] n node by l is = absurd (omega (arith, l))
set_is_left (first ∷ nodes) zero node by l is = ap (λ (x : GraphNode). (record { state = x.state; by = by }) ∷ nodes) is
set_is_left (first ∷ nodes) (suc n) node by l is = ap (λ (rest : List GraphNode). first ∷ rest)
    (set_is_left nodes n node by (omega (arith, l)) is)
