-- The first of the parts, and those behind it.
use Rattle.std.proofs.Common.{◌≡◌, ℕ, zero, suc, ◌+◌, ◌<◌, ◌≤◌, true, false, cond, ltb, eqb, not, List, [], ◌∷◌, length, take, drop}
use Rattle.std.proofs.Common.{Some, None, refl, sym, ap, ◌∙◌, arith, inl, inr, min, map}
use Rattle.std.specs.Prelude.{position}
use Rattle.std.specs.List.{position_or_len}
use Rattle.std.proofs.lemmas.Bool.{cases_Bool, ltb-false}
use Rattle.std.proofs.lemmas.Grind.{common_steps}
use Rattle.std.proofs.Math.Seq.{take-length}
use Rattle.list_views.proofs.Orders.{one_before}
use Rattle.list_views.proofs.Options.{none_from_place}
use Rattle.its_front.specs.text_lines.LinesAndWords.{onto, parts}

abbrev first_len : ℕ → List ℕ → ℕ
first_len at bytes = position_or_len (λ b. eqb b at) bytes

one_by_one : (at b : ℕ) (bytes : List ℕ)
    → parts at bytes ≡ take (first_len at bytes) bytes ∷ parts at (drop (suc (first_len at bytes)) bytes)
    → parts at (b ∷ bytes) ≡ take (first_len at (b ∷ bytes)) (b ∷ bytes) ∷ parts at (drop (suc (first_len at (b ∷ bytes))) (b ∷ bytes))
one_by_one at b bytes more =
    elim (eqb b at) as (λ v. cond v ([] ∷ parts at bytes) (onto b (parts at bytes)) ≡ take (cond (not v) (1 + first_len at bytes) 0)
    (b ∷ bytes) ∷ parts at (drop (suc (cond (not v) (1 + first_len at bytes) 0)) (b ∷ bytes))) [
      | true ↦ refl
      | false ↦ ap (onto b) more ∙ ap (λ n. take n (b ∷ bytes) ∷ parts at (drop (suc n) (b ∷ bytes)))
          (sym (one_before (first_len at bytes)))
    ]

first : (at : ℕ) (bytes : List ℕ) → 0 < length bytes
    → parts at bytes ≡ take (first_len at bytes) bytes ∷ parts at (drop (suc (first_len at bytes)) bytes)
first at [] h = absurd (omega arith)
first at (b ∷ []) h = elim (eqb b at) as (λ v. cond v ([] ∷ parts at []) (onto b (parts at [])) ≡ take (cond (not v) (1 + 0) 0)
    (b ∷ []) ∷ parts at (drop (suc (cond (not v) (1 + 0) 0)) (b ∷ []))) [ true ↦ refl | false ↦ refl ]
first at (b ∷ c ∷ bytes) h = one_by_one at b (c ∷ bytes) (first at (c ∷ bytes) (omega arith))

place : (n len i : ℕ) → cond (ltb n len) (Some n) None ≡ Some i → n ≡ i
place n len i h = elim (ltb n len) as (λ v. cond v (Some n) None ≡ Some i → n ≡ i) [ true ↦ λ e. cc | false ↦ λ e. absurd cc ] h

drop_more : (i : ℕ) (bytes : List ℕ) → drop (suc i) bytes ≡ drop 1 (drop i bytes)
drop_more zero bytes = refl
drop_more (suc i) [] = refl
drop_more (suc i) (b ∷ bytes) = drop_more i bytes

pub parts_at : (at : ℕ) (bytes : List ℕ) (i : ℕ) → 0 < length bytes → position (λ b. eqb b at) bytes ≡ Some i
    → parts at bytes ≡ take i bytes ∷ parts at (drop 1 (drop i bytes))
parts_at at bytes i h p =
    let same : first_len at bytes ≡ i = place (first_len at bytes) (length bytes) i p in
    first at bytes h ∙ ap (λ n. take n bytes ∷ parts at (drop (suc n) bytes)) same
    ∙ ap (λ rest. take i bytes ∷ parts at rest) (drop_more i bytes)

pub one_part : (at : ℕ) (bytes : List ℕ) → 0 < length bytes → position (λ b. eqb b at) bytes ≡ None
    → parts at bytes ≡ take (length bytes) bytes ∷ parts at (drop (length bytes) bytes)
one_part at bytes h p =
    let past : length bytes ≤ first_len at bytes = none_from_place (first_len at bytes) (length bytes) p in
    let front : take (first_len at bytes) bytes ≡ bytes = grind (arith, common_steps) in
    let rest : drop (suc (first_len at bytes)) bytes ≡ [] = grind (arith, common_steps) in
    let all : take (length bytes) bytes ≡ bytes = take-length bytes in
    let none : drop (length bytes) bytes ≡ [] = grind (arith, common_steps) in
    first at bytes h ∙ rw (front, rest, all, none) refl
