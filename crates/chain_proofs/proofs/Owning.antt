-- Rules of a set as values of their own; items beside one another, one more.
use Rattle.std.proofs.Common.{◌≡◌, ◌+◌, ℕ, zero, suc, List, [], ◌∷◌, ◌++◌, take, Some}
use Rattle.std.proofs.Common.{slice_get, refl, sym, subst, arith}
use Rattle.std.specs.List.{AllZip}
use Rattle.std.proofs.lemmas.Option.{none-some, same_Some}

zip_next : {A B : Type 0} (R : A → B → Type 0) (xs : List A) (ys : List B) (i : ℕ) (x : A) (y : B) → slice_get xs i ≡ Some x
    → AllZip R (take i xs) ys → R x y → AllZip R (take (suc i) xs) (ys ++ y ∷ [])
zip_next R [] ys i x y e h r = absurd (none-some x e)
zip_next R (z ∷ xs) [] zero x y e h r = (subst (λ (k : _). R k y) (sym (same_Some z x e)) r, tt)
zip_next R (z ∷ xs) (w ∷ ys) zero x y e h r = absurd h
zip_next R (z ∷ xs) [] (suc i) x y e h r = absurd h
zip_next R (z ∷ xs) (w ∷ ys) (suc i) x y e h r = (h.0, zip_next R xs ys i x y e h.1 r)

pub zip_more : {A B : Type 0} (R : A → B → Type 0) (xs : List A) (ys more : List B) (i : ℕ) (x : A) (y : B)
    → slice_get xs i ≡ Some x → AllZip R (take i xs) ys → R x y → more ≡ ys ++ y ∷ [] → AllZip R (take (i + 1) xs) more
zip_more {A} {B} R xs ys more i x y e h r f =
    let same : suc i ≡ i + 1 = omega arith in
    subst (λ (k : ℕ). AllZip R (take k xs) more) same (subst (AllZip R (take (suc i) xs)) (sym f) (zip_next R xs ys i x y e h r))

pub zip_pushed : {A B : Type 0} (R : A → B → Type 0) (xs : List A) (ys more : List B) (x : A) (y : B) → more ≡ ys ++ y ∷ []
    → AllZip R xs ys → R x y → AllZip R (xs ++ x ∷ []) more
zip_pushed {A} {B} R xs ys more x y e h r = subst (AllZip R (xs ++ x ∷ [])) (sym e) (go xs ys h)
  where
    go : (those : List A) (bs : List B) → AllZip R those bs → AllZip R (those ++ x ∷ []) (bs ++ y ∷ [])
    go [] [] k = (r, tt)
    go [] (b ∷ bs) k = absurd k
    go (a ∷ rest) [] k = absurd k
    go (a ∷ rest) (b ∷ bs) k = (k.0, go rest bs k.1)
