-- Laws of lists by place: what stands where in a list that was joined, cut or written to.
use Rattle.std.proofs.Common.{[], List, ap, map, length, refl, suc, ◌≡◌, ◌∷◌, Some, ◌++◌, ℕ, zero, ◌+◌, arith, ◌<◌, zero-add, ◌∙◌}
use Rattle.std.proofs.Common.{None, ◌≤◌, take, drop, sym, reverse}
use Rattle.std.proofs.lemmas.List.{map_push, reverse-append}
use Rattle.std.proofs.lemmas.Option.{none-some}
use Rattle.std.specs.Prelude.{slice_get, slice_set}
use Rattle.std.proofs.Common.{slice_index_or, add-one}

pub length_mapped : {A B : Type 0} (f : A → B) (xs : List A) → length (map f xs) ≡ length xs
length_mapped f [] = refl
length_mapped f (x ∷ xs) = ap suc (length_mapped f xs)

pub get_last : {X : Type 0} (xs : List X) (y : X) → slice_get (xs ++ y ∷ []) (length xs) ≡ Some y
get_last [] y = refl
get_last (x ∷ xs) y = get_last xs y

pub get_before : {A : Type 0} (xs ys : List A) (k : ℕ) (x : A) → slice_get xs k ≡ Some x → slice_get (xs ++ ys) k ≡ Some x
get_before [] ys k x e = cc
get_before (z ∷ xs) ys zero x e = e
get_before (z ∷ xs) ys (suc k) x e = get_before xs ys k x e

pub get_front : {X : Type 0} (xs ys : List X) (k : ℕ) → k < length xs → slice_get (xs ++ ys) k ≡ slice_get xs k
get_front [] ys k l = absurd (omega (arith, l))
get_front (x ∷ xs) ys zero l = refl
get_front (x ∷ xs) ys (suc k) l = get_front xs ys k (omega (arith, l))

pub get_behind : {A : Type 0} (xs ys : List A) (k : ℕ) → slice_get (xs ++ ys) (length xs + k) ≡ slice_get ys k
get_behind [] ys k = ap (slice_get ys) (zero-add k)
get_behind (x ∷ xs) ys k =
    let i : length (x ∷ xs) + k ≡ suc (length xs + k) = omega arith in
    ap (slice_get (x ∷ xs ++ ys)) i ∙ get_behind xs ys k

pub get_within : {A : Type 0} (xs : List A) (n : ℕ) → n < length xs → (x : A) × (slice_get xs n ≡ Some x)
get_within [] n l = absurd (omega arith)
get_within (x ∷ xs) zero l = (x, refl)
get_within (x ∷ xs) (suc n) l = get_within xs n (omega arith)

pub get_past : {A : Type 0} (xs : List A) (n : ℕ) → slice_get xs n ≡ None → length xs ≤ n
get_past [] n h = omega arith
get_past (x ∷ xs) zero h = absurd cc
get_past (x ∷ xs) (suc n) h = omega (arith, get_past xs n h)

pub take_next : {A : Type 0} (xs : List A) (i : ℕ) (x : A) → slice_get xs i ≡ Some x → take (suc i) xs ≡ take i xs ++ x ∷ []
take_next [] i x h = absurd cc
take_next (y ∷ ys) zero x h = let e : y ≡ x = cc in rw e refl
take_next (y ∷ ys) (suc i) x h = ap (λ zs. y ∷ zs) (take_next ys i x h)

pub take_one_more : {A : Type 0} (xs : List A) (i : ℕ) (x : A) → slice_get xs i ≡ Some x → take (i + 1) xs ≡ take i xs ++ x ∷ []
take_one_more xs i x h = rw add-one (take_next xs i x h)

pub drop_past : {A : Type 0} (xs : List A) (i : ℕ) → length xs ≤ i → drop i xs ≡ []
drop_past [] zero l = refl
drop_past [] (suc i) l = refl
drop_past (x ∷ xs) zero l = absurd (omega (arith, l))
drop_past (x ∷ xs) (suc i) l = drop_past xs i (omega (arith, l))

pub take_length : {A : Type 0} (xs : List A) → take (length xs) xs ≡ xs
take_length [] = refl
take_length (x ∷ xs) = ap (λ ys. x ∷ ys) (take_length xs)

pub take_past : {A : Type 0} (i : ℕ) (xs : List A) → length xs ≤ i → take i xs ≡ xs
take_past zero [] l = refl
take_past zero (x ∷ xs) l = absurd (omega (arith, l))
take_past (suc i) [] l = refl
take_past (suc i) (x ∷ xs) l = ap (λ (rest : List _). x ∷ rest) (take_past i xs (omega (arith, l)))

pub length_taken : {A : Type 0} (i : ℕ) (xs : List A) → length (take i xs) ≤ i
length_taken zero xs = omega arith
length_taken (suc i) [] = omega arith
length_taken (suc i) (x ∷ xs) = omega (arith, length_taken i xs)

pub length_set : {X : Type 0} (xs : List X) (k : ℕ) (x : X) → length (slice_set xs k x) ≡ length xs
length_set [] k x = refl
length_set (y ∷ xs) zero x = refl
length_set (y ∷ xs) (suc k) x = ap suc (length_set xs k x)

pub get_set : {A : Type 0} (xs : List A) (n : ℕ) (x y : A) → slice_get xs n ≡ Some y → slice_get (slice_set xs n x) n ≡ Some x
get_set [] n x y at = absurd (none-some y at)
get_set (z ∷ xs) zero x y at = refl
get_set (z ∷ xs) (suc n) x y at = get_set xs n x y at

pub map_reversed : {A B : Type 0} (f : A → B) (xs : List A) → map f (reverse xs) ≡ reverse (map f xs)
map_reversed f [] = refl
map_reversed f (x ∷ xs) = ap (map f) (reverse-append (x ∷ []) xs) ∙ map_push f (reverse xs) x
    ∙ ap (λ (l : List _). l ++ f x ∷ []) (map_reversed f xs) ∙ sym (reverse-append (f x ∷ []) (map f xs))

pub any_default : {X : Type 0} (xs : List X) (k : ℕ) (d e : X) → k < length xs → slice_index_or xs k d ≡ slice_index_or xs k e
any_default [] k d e l = absurd (omega (arith, l))
any_default (x ∷ xs) zero d e l = refl
any_default (x ∷ xs) (suc k) d e l = any_default xs k d e (omega (arith, l))
