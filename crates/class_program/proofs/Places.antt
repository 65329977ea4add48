-- The instructions of a method are found by halving, as their places rise.
use Rattle.std.proofs.Common.{◌≡◌, ◌&&◌, ℕ, zero, suc, ◌+◌, ◌≤◌, ◌<◌, Bool, true, false, cond, eqb, leb, ltb, List, [], ◌∷◌, length}
use Rattle.std.proofs.Common.{get_or, add-one, Option, Some, None, refl, ap, sym, ◌∙◌, subst, arith}
use Rattle.std.specs.Prelude.{slice_get, option_and_then}
use Rattle.std.specs.List.Sorted.{IsNonDecreasingBy, IsPartitionPoint}
use Rattle.std.proofs.lemmas.Bool.{and_parts, leb-true, ltb-true, ltb-false, ne_eqb}
use Rattle.std.proofs.lemmas.List.Sorted.{IsNonDecreasingBy-from_all_adjacent}
use Rattle.class_program.specs.Instructions.{first_place, instruction_at, rises_from, starts_at_zero, is_placed, place_of, if_at, nth_at}

pub placed_rises : {A : Type 0} (xs : List (ℕ × A)) → is_placed xs ≡ true → rises_from 0 xs ≡ true
placed_rises xs e = (and_parts (starts_at_zero xs) (rises_from 0 xs) e).1

next_above : {A : Type 0} (p : ℕ) (xs : List (ℕ × A)) (k : ℕ) (d : ℕ × A) → rises_from p xs ≡ true → suc k < length xs
    → (get_or xs k d).0 ≤ (get_or xs (suc k) d).0
next_above p [] k d e l = absurd (omega (arith, l))
next_above p (x ∷ []) k d e l = absurd (omega (arith, l))
next_above p (x ∷ y ∷ xs) zero d e l =
    let r = (and_parts (leb p x.0) (leb (x.0 + 1) y.0 && rises_from (y.0 + 1) xs) e).1 in
    let a = leb-true (x.0 + 1) y.0 (and_parts (leb (x.0 + 1) y.0) (rises_from (y.0 + 1) xs) r).0 in
    omega (arith, a)
next_above p (x ∷ y ∷ xs) (suc k) d e l = next_above (x.0 + 1) (y ∷ xs) k d
    (and_parts (leb p x.0) (leb (x.0 + 1) y.0 && rises_from (y.0 + 1) xs) e).1 (omega (arith, l))

pub places_rise : {A : Type 0} (p : ℕ) (xs : List (ℕ × A)) → rises_from p xs ≡ true → IsNonDecreasingBy (λ x. x.0) xs
places_rise p xs e =
    IsNonDecreasingBy-from_all_adjacent (λ x. x.0) xs
    (λ k d l. subst (λ (j : ℕ). (get_or xs k d).0 ≤ (get_or xs j d).0) (sym (add-one k)) (next_above p xs k d e (omega (arith, l))))

none_above : {A : Type 0} (place p : ℕ) (xs : List (ℕ × A)) → place < p → rises_from p xs ≡ true → instruction_at xs place ≡ None
none_above place p [] l e = refl
none_above place p (x ∷ xs) l e =
    let r = and_parts (leb p x.0) (rises_from (x.0 + 1) xs) e in
    let above = leb-true p x.0 r.0 in
    ap (λ b. cond b (Some (x.1, first_place xs)) (instruction_at xs place)) (ne_eqb x.0 place (λ s. omega (arith, s, l, above)))
    ∙ none_above place (x.0 + 1) xs (omega (arith, l, above)) r.1

next_is : {A : Type 0} (xs : List (ℕ × A)) → first_place xs ≡ place_of xs 0
next_is [] = refl
next_is (x ∷ xs) = refl

-- one more before it
after : {A : Type 0} (x : ℕ × A) (xs : List (ℕ × A)) (i place : ℕ)
    → nth_at xs i place ≡ option_and_then (if_at place (place_of (x ∷ xs) (suc (i + 1)))) (slice_get (x ∷ xs) (suc i))
after x xs i place = refl

pub found_there : {A : Type 0} (place p : ℕ) (xs : List (ℕ × A)) (i : ℕ) → rises_from p xs ≡ true → i ≤ length xs
    → IsPartitionPoint (λ x. ltb x.0 place ≡ true) (λ x. ltb x.0 place ≡ false) xs i → instruction_at xs place ≡ nth_at xs i place
found_there place p [] zero e l point = refl
found_there place p [] (suc i) e l point = absurd (omega (arith, l))
found_there {A} place p (x ∷ xs) zero e l point = go (eqb x.0 place) refl
  where
    low : place ≤ x.0
    low = ltb-false x.0 place (point.1 0 x (omega arith) (omega arith))

    go : (b : Bool) → eqb x.0 place ≡ b
        → cond b (Some (x.1, first_place xs)) (instruction_at xs place) ≡ cond b (Some (x.1, place_of (x ∷ xs) (0 + 1))) None
    go true q = ap (λ (o : Option ℕ). Some (x.1, o)) (next_is xs)
    go false q = none_above place (x.0 + 1) xs (omega (arith, low)) (and_parts (leb p x.0) (rises_from (x.0 + 1) xs) e).1
found_there {A} place p (x ∷ xs) (suc i) e l point =
    let low = ltb-true x.0 place (point.0 0 x (omega arith) (omega arith)) in
    let rest : IsPartitionPoint (λ y. ltb y.0 place ≡ true) (λ y. ltb y.0 place ≡ false) xs i = (
      λ k d m n. point.0 (suc k) d (omega arith) (omega (arith, n)),
      λ k d m n. point.1 (suc k) d (omega (arith, m))
          (omega (arith, n)),
    ) in
    ap (λ b. cond b (Some (x.1, first_place xs)) (instruction_at xs place)) (ne_eqb x.0 place (λ s. omega (arith, s, low)))
    ∙ found_there place (x.0 + 1) xs i (and_parts (leb p x.0) (rises_from (x.0 + 1) xs) e).1 (omega (arith, l)) rest
    ∙ ap (λ (k : ℕ). option_and_then (if_at place (place_of (x ∷ xs) k)) (slice_get xs i)) (sym (one_more i))
  where
    one_more : (k : ℕ) → suc k + 1 ≡ suc (k + 1)
    one_more k = omega arith
