-- The rest of a list, from a place on.
use Rattle.std.proofs.Common.{◌≡◌, ℕ, suc, ◌+◌, List, ◌∷◌, Some, ap, arith, ◌∙◌}
use Rattle.std.specs.Prelude.{slice_get}

abbrev pub IsRest : {X : Type 0} → List X → ℕ → List X → Type 0
IsRest all n rest = (k : ℕ) → slice_get all (n + k) ≡ slice_get rest k

pub rest_more : {X : Type 0} (all : List X) (n : ℕ) (x : X) (rest : List X) → IsRest all n (x ∷ rest) → IsRest all (suc n) rest
rest_more all n x rest h k = ap (slice_get all) (moved n k) ∙ h (suc k)
  where
    moved : (n k : ℕ) → suc n + k ≡ n + suc k
    moved n k = omega arith

pub rest_first : {X : Type 0} (all : List X) (n : ℕ) (x : X) (rest : List X) → IsRest all n (x ∷ rest) → slice_get all n ≡ Some x
rest_first all n x rest h = ap (slice_get all) (zero_more n) ∙ h 0
  where
    zero_more : (n : ℕ) → n ≡ n + 0
    zero_more n = omega arith

pub rest_all : {X : Type 0} (all : List X) → IsRest all 0 all
rest_all all k = ap (slice_get all) (zero_plus k)
  where
    zero_plus : (k : ℕ) → 0 + k ≡ k
    zero_plus k = omega arith
