-- A number among those of a list that rises.
use Rattle.std.proofs.Common.{◌≡◌, ◌⊎◌, inl, inr, ℕ, suc, ◌≤◌, Bool, true, false, cond, List, [], ◌∷◌, ◌++◌, refl, sym, ap, subst}
use Rattle.std.proofs.Common.{arith, ◌∙◌}
use Rattle.std.specs.Prelude.{nat_lt, filter}
use Rattle.std.proofs.lemmas.Bool.{false≢true, cases_lt}
use Rattle.jvm_heaps.specs.Regions.{RiseFrom}
use Rattle.list_views.specs.Lists.{Has}
use Rattle.list_views.proofs.Orders.{nat_lt_true, nat_lt_from, nat_lt_false}
use Rattle.throw_report.specs.inner.Words.{below, above, with_number}

-- ---- members

has_either : (xs ys : List ℕ) (c : ℕ) → Has (xs ++ ys) c → Has xs c ⊎ Has ys c
has_either [] ys c h = inr h
has_either (x ∷ xs) ys c (inl e) = inl (inl e)
has_either (x ∷ xs) ys c (inr h) = elim (has_either xs ys c h) as (λ o. Has (x ∷ xs) c ⊎ Has ys c) [
  | inl k ↦ inl (inr k)
  | inr k ↦ inr k
]

has_left : (xs ys : List ℕ) (c : ℕ) → Has xs c → Has (xs ++ ys) c
has_left [] ys c h = absurd h
has_left (x ∷ xs) ys c (inl e) = inl e
has_left (x ∷ xs) ys c (inr h) = inr (has_left xs ys c h)

has_right : (xs ys : List ℕ) (c : ℕ) → Has ys c → Has (xs ++ ys) c
has_right [] ys c h = h
has_right (x ∷ xs) ys c h = inr (has_right xs ys c h)

was_there : (p : ℕ → Bool) (xs : List ℕ) (c : ℕ) → Has (filter p xs) c → Has xs c
was_there p [] c h = absurd h
was_there p (x ∷ xs) c h = by (p x) (λ k. was_there p xs c k) h
  where
    by : (b : Bool) → (Has (filter p xs) c → Has xs c) → Has (cond b (x ∷ filter p xs) (filter p xs)) c → Has (x ∷ xs) c
    by true rest (inl e) = inl e
    by true rest (inr k) = inr (rest k)
    by false rest k = inr (rest k)

stays_there : (p : ℕ → Bool) (xs : List ℕ) (c : ℕ) → p c ≡ true → Has xs c → Has (filter p xs) c
stays_there p [] c t h = absurd h
stays_there p (x ∷ xs) c t h = by (p x) refl (λ k. stays_there p xs c t k) h
  where
    by : (b : Bool) → p x ≡ b → (Has xs c → Has (filter p xs) c) → Has (x ∷ xs) c → Has (cond b (x ∷ filter p xs) (filter p xs)) c
    by true e rest (inl s) = inl s
    by true e rest (inr k) = inr (rest k)
    by false e rest (inl s) = absurd (false≢true (sym e ∙ (ap p s ∙ t)))
    by false e rest (inr k) = rest k

-- exactly the number, and those that were there
pub number_comes : (number : ℕ) (xs : List ℕ) (c : ℕ) → (number ≡ c) ⊎ Has xs c → Has (with_number number xs) c
number_comes number xs c (inl e) = has_right (below number xs) _ c (inl e)
number_comes number xs c (inr h) = elim (cases_lt c number) as (λ o. Has (with_number number xs) c) [
  | inl l ↦ has_left (below number xs) _ c (stays_there (λ n. nat_lt n number) xs c (nat_lt_from c number l) h)
  | inr k ↦ elim (cases_lt number c) as (λ o. Has (with_number number xs) c) [
    | inl l ↦ has_right (below number xs) _ c (inr
        (stays_there (λ n. nat_lt number n) xs c (nat_lt_from number c l) h))
    | inr m ↦ has_right (below number xs) _ c (inl (omega (arith, k, m)))
  ]
]

pub number_only : (number : ℕ) (xs : List ℕ) (c : ℕ) → Has (with_number number xs) c → (number ≡ c) ⊎ Has xs c
number_only number xs c h = elim (has_either (below number xs) _ c h) as (λ o. (number ≡ c) ⊎ Has xs c) [
  | inl k ↦ inr (was_there (λ n. nat_lt n number) xs c k)
  | inr k ↦ elim k as (λ o. (number ≡ c) ⊎ Has xs c) [
    | inl e ↦ inl e
    | inr j ↦ inr (was_there (λ n. nat_lt number n) xs c j)
  ]
]

-- ---- order

rises_from : (low high : ℕ) (xs : List ℕ) → low ≤ high → RiseFrom high xs → RiseFrom low xs
rises_from low high [] l h = tt
rises_from low high (x ∷ xs) l h = (omega (arith, l, h.0), h.1)

still_rises : (p : ℕ → Bool) (low : ℕ) (xs : List ℕ) → RiseFrom low xs → RiseFrom low (filter p xs)
still_rises p low [] h = tt
still_rises p low (x ∷ xs) h = by (p x) (still_rises p (suc x) xs h.1)
  where
    by : (b : Bool) → RiseFrom (suc x) (filter p xs) → RiseFrom low (cond b (x ∷ filter p xs) (filter p xs))
    by true rest = (h.0, rest)
    by false rest = rises_from low (suc x) (filter p xs) (omega (arith, h.0)) rest

none_below : (number low : ℕ) (xs : List ℕ) → number ≤ low → RiseFrom low xs → below number xs ≡ []
none_below number low [] l h = refl
none_below number low (x ∷ xs) l h = by (nat_lt x number) refl (none_below number (suc x) xs (omega (arith, l, h.0)) h.1)
  where
    by : (b : Bool) → nat_lt x number ≡ b → below number xs ≡ [] → cond b (x ∷ below number xs) (below number xs) ≡ []
    by true e rest = let k = nat_lt_true x number e in absurd (omega (arith, k, l, h.0))
    by false e rest = rest

-- the rest of the list, where the number comes before it
number_first : (number x : ℕ) (xs : List ℕ) (b : Bool) → nat_lt number x ≡ b → number ≤ x → RiseFrom (suc x) xs
    → RiseFrom (suc number) (cond b (x ∷ above number xs) (above number xs))
number_first number x xs true e k h = (nat_lt_true number x e, still_rises (λ n. nat_lt number n) (suc x) xs h)
number_first number x xs false e k h = rises_from (suc number) (suc x) (above number xs) (omega (arith, k))
    (still_rises (λ n. nat_lt number n) (suc x) xs h)

pub number_rises : (number low : ℕ) (xs : List ℕ) → low ≤ number → RiseFrom low xs → RiseFrom low (with_number number xs)
number_rises number low [] l h = (l, tt)
number_rises number low (x ∷ xs) l h =
    by (nat_lt x number) refl (nat_lt number x) refl (λ k. number_rises number (suc x) xs k h.1)
  where
    by : (a : Bool) → nat_lt x number ≡ a → (b : Bool) → nat_lt number x ≡ b
        → (suc x ≤ number → RiseFrom (suc x) (below number xs ++ number ∷ above number xs))
        → RiseFrom low (cond a (x ∷ below number xs) (below number xs) ++ number ∷ cond b (x ∷ above number xs) (above number xs))
    by true e true f rest =
        let j = nat_lt_true x number e in
        let k = nat_lt_true number x f in
        absurd (omega (arith, j, k))
    by true e false f rest = (h.0, rest (nat_lt_true x number e))
    by false e b f rest =
        let k = nat_lt_false x number e in
        subst (λ (ys : List ℕ). RiseFrom low (ys ++ number ∷ cond b (x ∷ above number xs) (above number xs)))
        (sym (none_below number (suc x) xs (omega (arith, k)) h.1)) (l, number_first number x xs b f k h.1)
