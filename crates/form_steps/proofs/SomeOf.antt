-- Some item of a list has a property.
use Rattle.std.proofs.Common.{◌≡◌, ◌<◌, ◌⊎◌, inl, inr, ℕ, zero, suc, List, [], ◌∷◌, length, map, Option, Some, None, sym, subst}
use Rattle.std.proofs.Common.{arith, slice_index_or}
use Rattle.std.specs.List.{AllByRecursion, Any, cons_option, filter_map}

abbrev pub SomeOf : {X : Type 0} → (X → Type 0) → List X → Type 0
SomeOf P [] = ⊥
SomeOf P (x ∷ xs) = P x ⊎ SomeOf P xs

-- the item that has the one has the other too
pub some_of : {X : Type 0} (P Q : X → Type 0) (xs : List X) → Any P xs → AllByRecursion Q xs → SomeOf (λ x. P x × Q x) xs
some_of {X} P Q xs any all = at xs any.0 any.1 any.2 any.3 any.4 all
  where
    at : (xs : List X) (k : ℕ) (x : X) → k < length xs → slice_index_or xs k x ≡ x → P x → AllByRecursion Q xs → SomeOf (λ y. P y × Q y) xs
    at [] k x l e p a = absurd (omega (arith, l))
    at (y ∷ ys) zero x l e p a = inl (subst P (sym e) p, a.0)
    at (y ∷ ys) (suc k) x l e p a = inr (at ys k x (omega (arith, l)) e p a.1)

pub some_one : {X : Type 0} (P : X → Type 0) (xs : List X) → Any P xs → SomeOf P xs
some_one {X} P xs any = at xs any.0 any.1 any.2 any.3 any.4
  where
    at : (xs : List X) (k : ℕ) (x : X) → k < length xs → slice_index_or xs k x ≡ x → P x → SomeOf P xs
    at [] k x l e p = absurd (omega (arith, l))
    at (y ∷ ys) zero x l e p = inl (subst P (sym e) p)
    at (y ∷ ys) (suc k) x l e p = inr (at ys k x (omega (arith, l)) e p)

pub some_mapped : {X Y : Type 0} (P : X → Type 0) (Q : Y → Type 0) (f : X → Option Y) (xs : List X)
    → ((x : X) → P x → (y : Y) × ((f x ≡ Some y) × Q y)) → SomeOf P xs → SomeOf Q (filter_map f xs)
some_mapped P Q f [] h s = absurd s
some_mapped {X} {Y} P Q f (x ∷ xs) h (inl p) =
    let found = h x p in
    subst (λ (o : Option Y). SomeOf Q (cons_option o (filter_map f xs))) (sym found.1.0) (inl found.1.1)
some_mapped {X} {Y} P Q f (x ∷ xs) h (inr s) = put (f x) (some_mapped P Q f xs h s)
  where
    put : (o : Option Y) → SomeOf Q (filter_map f xs) → SomeOf Q (cons_option o (filter_map f xs))
    put None r = r
    put (Some y) r = inr r

-- so it is with a function that gives an item for each
pub some_of_map : {X Y : Type 0} (P : X → Type 0) (Q : Y → Type 0) (f : X → Y) (xs : List X) → ((x : X) → P x → Q (f x))
    → SomeOf P xs → SomeOf Q (map f xs)
some_of_map P Q f [] h s = absurd s
some_of_map P Q f (x ∷ xs) h (inl p) = inl (h x p)
some_of_map P Q f (x ∷ xs) h (inr s) = inr (some_of_map P Q f xs h s)
