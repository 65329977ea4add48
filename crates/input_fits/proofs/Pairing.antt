-- Two lists, item by item, as far as a loop has come.
use Rattle.std.proofs.Common.{◌≡◌, ◌<◌, ◌≤◌, ◌+◌, ◌∙◌, ℕ, zero, suc, List, [], ◌∷◌, length, get_or, slice_get, Some, inl, inr, refl, sym}
use Rattle.std.proofs.Common.{ap, subst, arith}
use Rattle.std.specs.List.{AllZip}
use Rattle.std.proofs.lemmas.Bool.{cases_lt}
use Rattle.std.proofs.lemmas.Option.{get_or_from_slice_get, slice_get-get_or}
use Rattle.list_views.proofs.Zipped.{zip_at}

-- the items at each of the first so many places are related
abbrev pub FirstMeet : {A B : Type 0} → (A → B → Type 0) → List A → List B → ℕ → Type 0
FirstMeet {A = A} {B = B} R xs ys count = (k : ℕ) (x : A) (y : B) → k < count → slice_get xs k ≡ Some x → slice_get ys k ≡ Some y → R x y

pub one_more : {A B : Type 0} (R : A → B → Type 0) (xs : List A) (ys : List B) (n : ℕ) (x d : A) (y e : B) → x ≡ get_or xs n d
    → y ≡ get_or ys n e → R x y → FirstMeet R xs ys n → FirstMeet R xs ys (n + 1)
one_more R xs ys n x d y e x_is y_is related before k v w l at_v at_w = elim (cases_lt k n) as (λ o. R v w) [
  | inl low ↦ before k v w low at_v at_w
  | inr high ↦
      let here : n ≡ k = omega (arith, l, high) in
      let same_x : x ≡ v = x_is ∙ get_or_from_slice_get xs n v d (ap (slice_get xs) here ∙ at_v) in
      let same_y : y ≡ w = y_is ∙ get_or_from_slice_get ys n w e (ap (slice_get ys) here ∙ at_w) in
      subst (R v) same_y (subst (λ a. R a y) same_x related)
]

pub all_meet : {A B : Type 0} (R : A → B → Type 0) (xs : List A) (ys : List B) (n : ℕ) → length xs ≡ length ys → length xs ≤ n
    → FirstMeet R xs ys n → AllZip R xs ys
all_meet R [] [] n same l first = tt
all_meet R [] (y ∷ ys) n same l first = absurd (omega (arith, same))
all_meet R (x ∷ xs) [] n same l first = absurd (omega (arith, same))
all_meet R (x ∷ xs) (y ∷ ys) zero same l first = absurd (omega (arith, l))
all_meet R (x ∷ xs) (y ∷ ys) (suc n) same l first = (
  first 0 x y (omega arith) refl refl,
  all_meet R xs ys n (omega (arith, same)) (omega (arith, l)) (λ k v w low at_v at_w. first (suc k) v w (omega (arith, low)) at_v at_w),
)

pub meet_at : {A B : Type 0} (R : A → B → Type 0) (xs : List A) (ys : List B) (n : ℕ) (x d : A) (y e : B) → n < length xs
    → length xs ≡ length ys → x ≡ get_or xs n d → y ≡ get_or ys n e → AllZip R xs ys → R x y
meet_at R xs ys n x d y e l same x_is y_is all = zip_at R xs ys n x y all (slice_get-get_or xs n d l ∙ ap Some (sym x_is))
    (slice_get-get_or ys n e (omega (arith, l, same)) ∙ ap Some (sym y_is))
