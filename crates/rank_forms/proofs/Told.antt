-- A list is made item by item, and something is told of each.
use Rattle.std.proofs.Common.{◌≡◌, inl, inr, ℕ, ◌+◌, ◌<◌, ◌≤◌, List, [], ◌∷◌, ◌++◌, length, get_or, Option, Some, subst, ap, arith}
use Rattle.std.proofs.Common.{◌∙◌, sym, length-append}
use Rattle.std.specs.Prelude.{slice_get}
use Rattle.std.proofs.lemmas.Bool.{cases_eq}
use Rattle.std.proofs.lemmas.List.{get_or_at, get_or_append_left}
use Rattle.std.proofs.lemmas.Option.{slice_get_within, same_Some}

-- so much is told of the first items
pub record AreTold {I X : Type 0} (P : I → X → Type 0) (items : List I) (d : X) (told : List X) (n : ℕ) : Type 0 where
  pub count : length told ≡ n
  pub low : n ≤ length items
  pub each : (k : ℕ) (item : I) → k < n → slice_get items k ≡ Some item → P item (get_or told k d)

pub told_first : {I X : Type 0} (P : I → X → Type 0) (items : List I) (d : X) (told : List X) → told ≡ [] → AreTold P items d told 0
told_first P items d told e = record { count = ap length e; low = omega arith; each = λ k item less. absurd (omega (arith, less)) }

pub told_more : {I X : Type 0} (P : I → X → Type 0) (items : List I) (d : X) (told new : List X) (one : X) (item : I) (n : ℕ)
    → new ≡ told ++ one ∷ [] → slice_get items n ≡ Some item → P item one → AreTold P items d told n → AreTold P items d new (n + 1)
told_more {I} {X} P items d told new one item n e at tells h = record {
  count = let c : length new ≡ length told + 1 = ap length e ∙ length-append told (one ∷ []) in omega (arith, c, h.count);
  low = let w = slice_get_within items n item at in omega (arith, w);
  each = λ k other less is. subst (λ (l : List X). P other (get_or l k d)) (sym e)
      (elim (cases_eq k n) as (λ o. P other (get_or (told ++ one ∷ []) k d)) [
        | inl s ↦ subst (λ (x : X). P other x) (sym (get_or_at told one [] d k (h.count ∙ sym s)))
            (subst (λ (x : I). P x one) (same_Some item other (sym at ∙ ap (slice_get items) (sym s) ∙ is)) tells)
        | inr f ↦ subst (λ (x : X). P other x)
            (sym (get_or_append_left told (one ∷ []) d k (let b = before k n less f in omega (arith, b, h.count))))
            (h.each k other (before k n less f) is)
      ]);
}
  where
    before : (a b : ℕ) → a < b + 1 → (a ≡ b → ⊥) → a < b
    before a b h n = omega (arith, n)

pub told_each : {I X : Type 0} (P : I → X → Type 0) (items : List I) (d : X) (told : List X) (n : ℕ) → length items ≤ n
    → AreTold P items d told n → (k : ℕ) (item : I) → slice_get items k ≡ Some item → P item (get_or told k d)
told_each P items d told n past h k item is = h.each k item (let low = slice_get_within items k item is in omega (arith, low)) is

pub told_all : {I X : Type 0} (P : I → X → Type 0) (items : List I) (d : X) (told : List X) (n : ℕ) → length items ≤ n
    → AreTold P items d told n → (length told ≡ length items)
    × ((k : ℕ) (item : I) → slice_get items k ≡ Some item → P item (get_or told k d))
told_all P items d told n past h = (omega (arith, h.count, h.low), told_each P items d told n past h)
