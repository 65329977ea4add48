-- Laws of what holds of all items of a list.
use Rattle.std.proofs.Common.{[], ℕ, List, Some, subst, ◌≡◌, ◌+◌, ◌∷◌, ◌++◌, suc, refl, Option, None, length, get_or, take, ◌<◌}
use Rattle.std.proofs.Common.{◌≤◌, true, zero, Bool}
use Rattle.std.proofs.lemmas.Bool.{and_parts}
use Rattle.std.proofs.lemmas.List.{take_all}
use Rattle.std.proofs.lemmas.List.Elements.{All-tail, All-cons, All-head, All-nil, All-more}
use Rattle.std.proofs.lemmas.Option.{get_or_from_slice_get, slice_get_within}
use Rattle.std.specs.List.{All, AllByRecursion, filter_map, cons_option, flat_map, list_all}
use Rattle.std.specs.Prelude.{slice_get, map}

pub all_at : {X : Type 0} (P : X → Type 0) (xs : List X) (k : ℕ) (x : X) → All P xs → slice_get xs k ≡ Some x → P x
all_at P xs k x all e = subst P (get_or_from_slice_get xs k x x e) (all k x (slice_get_within xs k x e))

pub all_joined : {X : Type 0} (P : X → Type 0) (xs ys : List X) → AllByRecursion P xs → AllByRecursion P ys → AllByRecursion P (xs ++ ys)
all_joined P [] ys a b = b
all_joined P (x ∷ xs) ys a b = (a.0, all_joined P xs ys a.1 b)

pub all_front : {X : Type 0} (P : X → Type 0) (xs ys : List X) → AllByRecursion P (xs ++ ys) → AllByRecursion P xs
all_front P [] ys a = tt
all_front P (x ∷ xs) ys a = (a.0, all_front P xs ys a.1)

pub all_back : {X : Type 0} (P : X → Type 0) (xs ys : List X) → AllByRecursion P (xs ++ ys) → AllByRecursion P ys
all_back P [] ys a = a
all_back P (x ∷ xs) ys a = all_back P xs ys a.1

pub all_weaker : {A : Type 0} (P R : A → Type 0) → ((x : A) → P x → R x) → (xs : List A) → AllByRecursion P xs → AllByRecursion R xs
all_weaker P R f [] p = tt
all_weaker P R f (x ∷ xs) p = (f x p.0, all_weaker P R f xs p.1)

pub all_places : {A : Type 0} (P : A → Type 0) (xs : List A) → ((n : ℕ) (x : A) → slice_get xs n ≡ Some x → P x) → AllByRecursion P xs
all_places P [] f = tt
all_places P (x ∷ xs) f = (f 0 x refl, all_places P xs (λ n y e. f (suc n) y e))

pub all_mapped : {A B : Type 0} (P : B → Type 0) (f : A → B) (xs : List A) → AllByRecursion (λ x. P (f x)) xs → AllByRecursion P (map f xs)
all_mapped P f [] h = tt
all_mapped P f (x ∷ xs) h = (h.0, all_mapped P f xs h.1)

pub all_filtered : {A B : Type 0} (P : B → Type 0) (f : A → Option B) (xs : List A) → ((x : A) (y : B) → f x ≡ Some y → P y)
    → AllByRecursion P (filter_map f xs)
all_filtered P f [] h = tt
all_filtered {A} {B} P f (x ∷ xs) h = go (f x) refl (all_filtered P f xs h)
  where
    go : (o : Option B) → f x ≡ o → AllByRecursion P (filter_map f xs) → AllByRecursion P (cons_option o (filter_map f xs))
    go None e rest = rest
    go (Some y) e rest = (h x y e, rest)

pub all_flat : {A B : Type 0} (P : B → Type 0) (f : A → List B) (xs : List A) → ((x : A) → AllByRecursion P (f x))
    → AllByRecursion P (flat_map f xs)
all_flat P f [] h = tt
all_flat P f (x ∷ xs) h = all_joined P (f x) (flat_map f xs) (h x) (all_flat P f xs h)

pub every_back : {A : Type 0} (P : A → Type 0) (xs ys : List A) → All P (xs ++ ys) → All P ys
every_back P [] ys h = h
every_back P (x ∷ xs) ys h = every_back P xs ys (All-tail P x (xs ++ ys) h)

pub every_front : {A : Type 0} (P : A → Type 0) (xs ys : List A) → All P (xs ++ ys) → All P xs
every_front P [] ys h = All-nil P
every_front P (x ∷ xs) ys h = All-cons P x xs (All-head P x (xs ++ ys) h) (every_front P xs ys (All-tail P x (xs ++ ys) h))

pub every_one_more : {X : Type 0} (P : X → Type 0) (xs : List X) (i : ℕ) (x : X) → i < length xs → x ≡ get_or xs i x
    → All P (take i xs) → P x → All P (take (i + 1) xs)
every_one_more P xs i x l e h p = All-more P xs i x l h (subst P e p)

pub every_whole : {X : Type 0} (P : X → Type 0) (xs : List X) (i : ℕ) → length xs ≤ i → All P (take i xs) → All P xs
every_whole P xs i l h = subst (All P) (take_all i xs l) h

pub holds_at : {A : Type 0} (p : A → Bool) (xs : List A) (i : ℕ) (x : A) → list_all p xs ≡ true → slice_get xs i ≡ Some x → p x ≡ true
holds_at p [] i x h e = cc
holds_at p (y ∷ ys) zero x h e = let same : y ≡ x = cc in subst (λ z. p z ≡ true) same (and_parts (p y) (list_all p ys) h).0
holds_at p (y ∷ ys) (suc i) x h e = holds_at p ys i x (and_parts (p y) (list_all p ys) h).1 e
