-- Laws of lists whose items are related pair by pair.
use Rattle.std.proofs.Common.{[], ℕ, List, suc, refl, Some, zero, subst, ◌≡◌, ◌∷◌, ◌+◌, ◌++◌}
use Rattle.std.specs.List.{AllZip}
use Rattle.std.specs.Prelude.{slice_get}

pub zip_left : {A B : Type 0} (R : A → B → Type 0) (xs : List A) (ys : List B) (n : ℕ) (x : A) → AllZip R xs ys
    → slice_get xs n ≡ Some x → (y : B) × ((slice_get ys n ≡ Some y) × R x y)
zip_left R [] ys n x all e = absurd (cc)
zip_left R (x' ∷ xs) [] n x all e = absurd all
zip_left R (x' ∷ xs) (y ∷ ys) zero x all e = let is : x' ≡ x = cc in (y, (refl, subst (λ (a : _). R a y) is all.0))
zip_left R (x' ∷ xs) (y ∷ ys) (suc n) x all e = zip_left R xs ys n x all.1 e

pub zip_right : {A B : Type 0} (R : A → B → Type 0) (xs : List A) (ys : List B) → AllZip R xs ys → (n : ℕ) (y : B)
    → slice_get ys n ≡ Some y → (x : A) × ((slice_get xs n ≡ Some x) × R x y)
zip_right R [] [] all n y e = absurd (cc)
zip_right R [] (b ∷ ys) all n y e = absurd all
zip_right R (a ∷ xs) [] all n y e = absurd all
zip_right R (a ∷ xs) (b ∷ ys) all zero y e = let is : b ≡ y = cc in (a, (refl, subst (R a) is all.0))
zip_right R (a ∷ xs) (b ∷ ys) all (suc n) y e = zip_right R xs ys all.1 n y e

pub zip_joined : {A B : Type 0} (R : A → B → Type 0) (xs ys : List A) (us vs : List B) → AllZip R xs us → AllZip R ys vs
    → AllZip R (xs ++ ys) (us ++ vs)
zip_joined R [] ys [] vs a b = b
zip_joined R [] ys (u ∷ us) vs a b = absurd a
zip_joined R (x ∷ xs) ys [] vs a b = absurd a
zip_joined R (x ∷ xs) ys (u ∷ us) vs a b = (a.0, zip_joined R xs ys us vs a.1 b)

pub zip_more : {X Y : Type 0} (R : X → Y → Type 0) (xs : List X) (ys : List Y) (x : X) (y : Y) → AllZip R xs ys → R x y
    → AllZip R (xs ++ x ∷ []) (ys ++ y ∷ [])
zip_more R [] [] x y h r = (r, tt)
zip_more R [] (b ∷ ys) x y h r = absurd h
zip_more R (a ∷ xs) [] x y h r = absurd h
zip_more R (a ∷ xs) (b ∷ ys) x y h r = (h.0, zip_more R xs ys x y h.1 r)

pub zip_at : {A B : Type 0} (R : A → B → Type 0) (xs : List A) (ys : List B) (n : ℕ) (x : A) (y : B) → AllZip R xs ys
    → slice_get xs n ≡ Some x → slice_get ys n ≡ Some y → R x y
zip_at R [] [] n x y all e h = absurd (cc)
zip_at R [] (y' ∷ ys) n x y all e h = absurd all
zip_at R (x' ∷ xs) [] n x y all e h = absurd all
zip_at R (x' ∷ xs) (y' ∷ ys) zero x y all e h =
    let is : x' ≡ x = cc in
    let is' : y' ≡ y = cc in
    subst (λ (a : _). R a y) is (subst (λ (b : _). R x' b) is' all.0)
zip_at R (x' ∷ xs) (y' ∷ ys) (suc n) x y all e h = zip_at R xs ys n x y all.1 e h
