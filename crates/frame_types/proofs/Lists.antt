-- Lists with one item replaced or added, by what stands at a place.
use Rattle.std.proofs.Common.{◌≡◌, ℕ, zero, suc, ◌<◌, List, [], ◌∷◌, ◌++◌, length, get_or, Some, refl, arith}
use Rattle.std.specs.Prelude.{slice_get, slice_set}
use Rattle.std.specs.List.{AllZip}

pub get_set_same : {X : Type 0} (xs : List X) (i : ℕ) (v : X) → i < length xs → slice_get (slice_set xs i v) i ≡ Some v
get_set_same [] i v l = absurd (omega arith)
get_set_same (x ∷ xs) zero v l = refl
get_set_same (x ∷ xs) (suc i) v l = get_set_same xs i v (omega arith)

-- what holds of two lists at each place holds place by place
pub all_zip : {A : Type 0} (R : A → A → Type 0) (d : A) (xs ys : List A) → length ys ≡ length xs
    → ((k : ℕ) → k < length xs → R (get_or xs k d) (get_or ys k d)) → AllZip R xs ys
all_zip R d [] [] l h = tt
all_zip R d [] (y ∷ ys) l h = absurd (omega arith)
all_zip R d (x ∷ xs) [] l h = absurd (omega arith)
all_zip R d (x ∷ xs) (y ∷ ys) l h = (h 0 (omega arith), all_zip R d xs ys (omega arith) (λ k m. h (suc k) (omega arith)))

-- a default at a list's end changes nothing that is read with that default
pub same_default : {X : Type 0} (xs : List X) (d : X) (k : ℕ) → get_or (xs ++ d ∷ []) k d ≡ get_or xs k d
same_default [] d zero = refl
same_default [] d (suc k) = refl
same_default (x ∷ xs) d zero = refl
same_default (x ∷ xs) d (suc k) = same_default xs d k
