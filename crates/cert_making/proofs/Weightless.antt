-- Lists of no classes.
use Rattle.std.proofs.Common.{◌≡◌, ◌∙◌, ℕ, ℤ, suc, ◌^◌, ◌≤◌, ◌==◌, Bool, true, List, [], ◌∷◌, length, sym, arith}
use Rattle.std.proofs.lemmas.Bool.{eqb-true}
use Rattle.lin_core.specs.Weights.{total_size}

some_weight : (n : ℕ) → (suc n == 0) ≡ true → ⊥
some_weight n e = let same : suc n ≡ 0 = eqb-true (suc n) 0 e in omega (arith, same)

pub no_weights : (weights : List (ℕ × ℤ)) (none : Bool) → none ≡ (length weights == 0) → none ≡ true → total_size weights ≤ 2 ^ 40
no_weights [] none e t = omega arith
no_weights (weight ∷ weights) none e t = absurd (some_weight (length weights) (sym e ∙ t))
