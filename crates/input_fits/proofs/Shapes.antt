-- Shapes that hold of regions.
use Rattle.std.proofs.Common.{◌≡◌, ◌≢◌, ◌∙◌, ◌++◌, ℕ, List, [], ◌∷◌, Option, Some, None, refl, sym, ap}
use Rattle.std.specs.Prelude.{◌↔◌}
use Rattle.std.specs.Option.{option_and_then}
use Rattle.jvm_values.specs.declared.heap.Heap.{Heap}
use Rattle.jvm_values.specs.declared.heap.Value.{Value}
use Rattle.jvm_values.specs.declared.shape.Shape.{Shape}
use Rattle.jvm_values.specs.declared.shape.Shape.TheVariants.{Tree, Dag, Any}
use Rattle.jvm_values.specs.Heaps.{heap_steps, IsTree, IsDag}
use Rattle.jvm_values.specs.Paths.{Steps, follow}
use Rattle.jvm_heaps.specs.Shapes.{IsBestShape}

-- a path behind a path
behind : (steps : Steps) (p q : List ℕ) (a : ℕ) (b : Option ℕ) → follow steps p a ≡ b → follow steps (p ++ q) a ≡ option_and_then (follow steps q) b
behind steps [] q a b e = ap (option_and_then (follow steps q)) e
behind steps (i ∷ p) q a b e = step (λ c f. behind steps p q c b f) (steps a i) e
  where
    step : ((c : ℕ) → follow steps p c ≡ b → follow steps (p ++ q) c ≡ option_and_then (follow steps q) b) → (o : Option ℕ)
        → option_and_then (follow steps p) o ≡ b → option_and_then (follow steps (p ++ q)) o ≡ option_and_then (follow steps q) b
    step rest None f = ap (option_and_then (follow steps q)) f
    step rest (Some c) f = rest c f

nothing_more : (p q : List ℕ) → p ≡ p ++ q → q ≡ []
nothing_more [] q e = sym e
nothing_more (i ∷ p) q e = nothing_more p q (ap tail e)
  where
    tail : List ℕ → List ℕ
    tail [] = []
    tail (x ∷ xs) = xs

tree_is_dag : (heap : Heap) (value : Value) → IsTree heap value → IsDag heap value
tree_is_dag heap value tree a names p b leads q back = nothing_more p q (tree a names p (p ++ q) b leads
    (behind (heap_steps heap) p q a (Some b) leads ∙ back))

-- the best shape tells whether there are cycles
pub best_acyclic : (heap : Heap) (value : Value) (best : Shape) → IsBestShape heap value best → (best ≢ Any) ↔ IsDag heap value
best_acyclic heap value Tree h = (λ other. tree_is_dag heap value h, λ dag e. tree_not_any e)
  where
    tree_not_any : Tree ≡ Any → ⊥
    tree_not_any e = cc
best_acyclic heap value Dag h = (λ other. h.1, λ dag e. dag_not_any e)
  where
    dag_not_any : Dag ≡ Any → ⊥
    dag_not_any e = cc
best_acyclic heap value Any h = (λ other. absurd (other refl), λ dag. absurd (h.1 dag))
