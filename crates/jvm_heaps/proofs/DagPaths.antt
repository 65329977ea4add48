-- A place whose steps all lead where no cycle lies lies on none either.
use Rattle.std.proofs.Common.{◌≡◌, ℕ, List, [], ◌∷◌, ◌++◌, Some, refl, sym, ap, subst}
use Rattle.std.specs.Option.{option_and_then}
use Rattle.list_views.proofs.Options.{then_some}
use Rattle.jvm_values.specs.Paths.{Steps, follow, IsDagFrom}
use Rattle.jvm_values.proofs.Options.{some_is}
use Rattle.jvm_values.proofs.PathLaws.{joined}
use Rattle.jvm_heaps.proofs.TreePaths.{nil_is_not_last}

cycle_behind : (steps : Steps) (a i c : ℕ) (q : List ℕ) → steps a i ≡ Some c → follow steps q c ≡ Some a → IsDagFrom steps c → ⊥
cycle_behind steps a i c q e f dag = nil_is_not_last q i
    (sym (dag [] c refl (q ++ i ∷ []) (joined steps q (i ∷ []) c a c f (ap (option_and_then (follow steps [])) e))))

pub dag_at : (steps : Steps) (a : ℕ) → ((i c : ℕ) → steps a i ≡ Some c → IsDagFrom steps c) → IsDagFrom steps a
dag_at steps a h [] b e [] f = refl
dag_at steps a h [] b e (i ∷ q) f =
    let g = then_some (follow steps q) (steps b i) b f in
    let here : b ≡ a = sym (some_is e) in
    absurd (cycle_behind steps b i g.0 q g.1.0 g.1.1 (h i g.0 (subst (λ (x : ℕ). steps x i ≡ Some g.0) here g.1.0)))
dag_at steps a h (i ∷ p) b e q f = let g = then_some (follow steps p) (steps a i) b e in h i g.0 g.1.0 p b g.1.1 q f
