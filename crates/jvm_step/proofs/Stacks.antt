-- Lists whose first items go.
use Rattle.std.proofs.Common.{◌≡◌, ℕ, zero, suc, ◌+◌, ◌-◌, ◌<◌, List, [], ◌∷◌, ◌++◌, length, take, drop, reverse, slice_set, refl}
use Rattle.std.proofs.Common.{sym, ap, ◌∙◌, arith, add-one}
use Rattle.std.proofs.Math.Seq.{drop-append_seam}
use Rattle.std.proofs.lemmas.List.{take-append-drop, reverse-append, length-drop, length-reverse, take_rest}

-- another item in the place of the first of what is left
set_first : {X : Type 0} (xs ys : List X) (n : ℕ) (v : X) → n < length xs → ys ≡ drop n xs → slice_set ys 0 v ≡ v ∷ drop (suc n) xs
set_first [] ys n v l e = absurd (omega (arith, l))
set_first (x ∷ xs) ys zero v l e = rw e refl
set_first (x ∷ xs) ys (suc n) v l e = set_first xs ys n v (omega (arith, l)) e

pub set_top : {X : Type 0} (xs ys : List X) (n : ℕ) (v : X) → n < length xs → ys ≡ drop n xs → slice_set ys 0 v ≡ v ∷ drop (n + 1) xs
set_top xs ys n v l e = rw add-one (set_first xs ys n v l e)

-- the last of a list that is turned round
pub last_ones : {X : Type 0} (xs : List X) (n : ℕ) → drop (length xs - n) (reverse xs) ≡ reverse (take n xs)
last_ones xs n =
    let split : reverse xs ≡ reverse (drop n xs) ++ reverse (take n xs) = ap reverse (sym (take-append-drop n xs))
    ∙ reverse-append (take n xs) (drop n xs) in
    let size : length xs - n ≡ length (reverse (drop n xs)) = sym (length-drop n xs) ∙ sym (length-reverse (drop n xs)) in
    ap (drop (length xs - n)) split ∙ ap (λ (k : ℕ). drop k (reverse (drop n xs) ++ reverse (take n xs))) size
    ∙ drop-append_seam (reverse (drop n xs)) (reverse (take n xs))

pub last_of : {X : Type 0} → (s xs : List X) (w n count : ℕ) → s ≡ reverse xs → n ≡ length xs → w ≡ n - count
    → take (length s - w) (drop w s) ≡ reverse (take count xs)
last_of {X} s xs w n count e f g = take_rest s w ∙ ap (λ (ys : List X). drop w ys) e
    ∙ ap (λ (k : ℕ). drop k (reverse xs)) (g ∙ ap (λ (k : ℕ). k - count) f) ∙ last_ones xs count
