-- The children of a state and the nodes that are named for them.
use Rattle.std.proofs.Common.{◌≡◌, ◌≤◌, ℕ, zero, suc, List, [], ◌∷◌, length, refl, arith}
use Rattle.std.specs.List.{AllZip}
use Rattle.term_graph.specs.Graphs.{GraphNode, GraphChild}
use Rattle.graph_check.specs.Good.{NamesChild}
use Rattle.graph_check.specs.inner.Checked.{FirstNamed}

pub all_named : (nodes : List GraphNode) (children : List GraphChild) (named : List ℕ) (count : ℕ) → length children ≡ length named
    → length children ≤ count → FirstNamed nodes children named count → AllZip (NamesChild nodes) children named
all_named nodes [] [] count same l first = tt
all_named nodes [] (n ∷ named) count same l first = absurd (omega (arith, same))
all_named nodes (child ∷ children) [] count same l first = absurd (omega (arith, same))
all_named nodes (child ∷ children) (n ∷ named) zero same l first = absurd (omega (arith, l))
all_named nodes (child ∷ children) (n ∷ named) (suc count) same l first = (
  first 0 child n (omega arith) refl refl,
  all_named nodes children named count (omega (arith, same)) (omega (arith, l))
      (λ k c m low at numbered. first (suc k) c m (omega (arith, low)) at numbered),
)
