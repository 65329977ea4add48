-- Two lists, item by item.
use Rattle.std.proofs.Common.{◌≡◌, ℕ, zero, suc, List, [], ◌∷◌, ◌++◌, map, replicate, Some, refl, subst}
use Rattle.std.specs.Prelude.{slice_get}
use Rattle.std.specs.List.{AllZip}

pub zip_replicate : {A B : Type 0} (R : A → B → Type 0) (n : ℕ) (x : A) (y : B) → R x y → AllZip R (replicate n x) (replicate n y)
zip_replicate R zero x y h = tt
zip_replicate R (suc n) x y h = (h, zip_replicate R n x y h)

-- the first list is one of values of a function
pub zip_map : {A B C : Type 0} (f : C → A) (R : A → B → Type 0) (xs : List C) (ys : List B) → AllZip R (map f xs) ys
    → AllZip (λ x y. R (f x) y) xs ys
zip_map f R [] [] h = tt
zip_map f R [] (y ∷ ys) h = absurd h
zip_map f R (x ∷ xs) [] h = absurd h
zip_map f R (x ∷ xs) (y ∷ ys) h = (h.0, zip_map f R xs ys h.1)

-- what an item stands beside
pub zip_before : {A B : Type 0} (R : A → B → Type 0) (xs : List A) (ys : List B) (n : ℕ) (y : B) → AllZip R xs ys
    → slice_get ys n ≡ Some y → (x : A) × ((slice_get xs n ≡ Some x) × R x y)
zip_before R [] [] n y h e = absurd cc
zip_before R [] (z ∷ ys) n y h e = absurd h
zip_before R (x ∷ xs) [] n y h e = absurd h
zip_before R (x ∷ xs) (z ∷ ys) zero y h e = let same : z ≡ y = cc in (x, (refl, subst (λ b. R x b) same h.0))
zip_before R (x ∷ xs) (z ∷ ys) (suc n) y h e = zip_before R xs ys n y h.1 e
