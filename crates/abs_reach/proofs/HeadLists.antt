-- Lists of values, one by one.
use Rattle.std.proofs.Common.{◌≡◌, ℕ, zero, suc, ◌+◌, ◌<◌, ◌≤◌, List, [], ◌∷◌, length, get_or, Option, Some, slice_get, ◌⊎◌, inl}
use Rattle.std.proofs.Common.{inr, refl, sym, ap, subst, ◌∙◌, arith}
use Rattle.std.proofs.lemmas.Bool.{cases_lt}
use Rattle.std.proofs.lemmas.Option.{slice_get-get_or, same_Some}
use Rattle.std.specs.Prelude.{map}
use Rattle.std.specs.Option.{option_map}

-- the first ones have the same values
abbrev pub FirstSame : {A X : Type 0} → (A → X) → List A → List A → ℕ → Type 0
FirstSame f xs ys count = (n : ℕ) → n < count → option_map f (slice_get xs n) ≡ option_map f (slice_get ys n)

pub next_value : {A X : Type 0} (f : A → X) (xs ys : List A) (i : ℕ) (d e : A) → i < length xs → i < length ys
    → f (get_or xs i d) ≡ f (get_or ys i e) → FirstSame f xs ys i → FirstSame f xs ys (i + 1)
next_value f xs ys i d e lx ly same h n low = elim (cases_lt n i) as (λ o. option_map f (slice_get xs n) ≡ option_map f (slice_get ys n)) [
  | inl l ↦ h n l
  | inr l ↦
      let is : n ≡ i = omega (arith, low, l) in
      subst (λ (k : ℕ). option_map f (slice_get xs k) ≡ option_map f (slice_get ys k)) (sym is)
      (ap (option_map f) (slice_get-get_or xs i d lx) ∙ ap Some same ∙ sym (ap (option_map f) (slice_get-get_or ys i e ly)))
]

pub all_values : {A X : Type 0} (f : A → X) (xs ys : List A) (count : ℕ) → length xs ≡ length ys → length xs ≤ count
    → FirstSame f xs ys count → map f xs ≡ map f ys
all_values f [] [] count l m h = refl
all_values f [] (y ∷ ys) count l m h = absurd (omega (arith, l))
all_values f (x ∷ xs) [] count l m h = absurd (omega (arith, l))
all_values f (x ∷ xs) (y ∷ ys) zero l m h = absurd (omega (arith, m))
all_values {X = X} f (x ∷ xs) (y ∷ ys) (suc count) l m h =
    ap (λ (z : X). z ∷ map f xs) (same_Some (f x) (f y) (h 0 (omega arith)))
    ∙ ap (λ (zs : List X). f y ∷ zs)
    (all_values f xs ys count (omega (arith, l)) (omega (arith, m)) (λ n low. h (suc n) (omega (arith, low))))

pub value_differs : {A X : Type 0} (f : A → X) (xs ys : List A) (i : ℕ) (d e : A) → i < length xs → i < length ys
    → (f (get_or xs i d) ≡ f (get_or ys i e) → ⊥) → map f xs ≡ map f ys → ⊥
value_differs f [] ys i d e lx ly n h = absurd (omega (arith, lx))
value_differs f (x ∷ xs) [] i d e lx ly n h = absurd (omega (arith, ly))
value_differs {X = X} f (x ∷ xs) (y ∷ ys) zero d e lx ly n h = n (same_Some (f x) (f y) (ap (λ (zs : List X). slice_get zs 0) h))
value_differs {X = X} f (x ∷ xs) (y ∷ ys) (suc i) d e lx ly n h = value_differs f xs ys i d e (omega (arith, lx))
    (omega (arith, ly)) n (ap (λ (zs : List X). rest_of zs) h)
  where
    rest_of : List X → List X
    rest_of [] = []
    rest_of (z ∷ zs) = zs
