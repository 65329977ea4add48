-- The places that are marked, as a rising list.
use Rattle.std.proofs.Common.{◌≡◌, ℕ, zero, suc, ◌+◌, ◌<◌, ◌≤◌, Bool, true, false, List, [], ◌∷◌, ◌++◌, length, get_or, drop, inl}
use Rattle.std.proofs.Common.{inr, refl, sym, subst, ◌∙◌, arith, drop-cons, add-one, append_assoc, append-nil}
use Rattle.std.specs.Prelude.{Contains, ◌↔◌}
use Rattle.std.proofs.lemmas.List.{drop_all}
use Rattle.std.proofs.lemmas.Bool.{false≢true}
use Rattle.jvm_values.specs.declared.heap.Value.{Value}
use Rattle.jvm_values.specs.declared.heap.Heap.{Heap}
use Rattle.jvm_values.specs.Heaps.{Region}
use Rattle.jvm_heaps.specs.Marks.{IsMarked}
use Rattle.jvm_heaps.specs.Regions.{RiseFrom, IsRegion, marked_from}
use Rattle.jvm_heaps.proofs.InLists.{IsIn}

rise_lower : (low n : ℕ) (xs : List ℕ) → low ≤ n → RiseFrom n xs → RiseFrom low xs
rise_lower low n [] l h = h
rise_lower low n (x ∷ xs) l h = (omega (arith, l, h.0), h.1)

rising_from : (n : ℕ) (marks : List Bool) → RiseFrom n (marked_from n marks)
unfolding marked_from
rising_from n [] = tt
rising_from n (true ∷ marks) = (omega arith, rising_from (suc n) marks)
rising_from n (false ∷ marks) = rise_lower n (suc n) (marked_from (suc n) marks) (omega arith) (rising_from (suc n) marks)

to_place : (n : ℕ) (marks : List Bool) (b : ℕ) → IsIn b (marked_from n marks) → (k : ℕ) × ((b ≡ n + k) × IsMarked marks k)
unfolding marked_from
to_place n [] b h = absurd h
to_place n (true ∷ marks) b (inl s) = (0, (omega (arith, s), refl))
to_place n (true ∷ marks) b (inr t) = let p = to_place (suc n) marks b t in (suc p.0, (omega (arith, p.1.0), p.1.1))
to_place n (false ∷ marks) b h = let p = to_place (suc n) marks b h in (suc p.0, (omega (arith, p.1.0), p.1.1))

from_place : (n : ℕ) (marks : List Bool) (k : ℕ) → IsMarked marks k → IsIn (n + k) (marked_from n marks)
unfolding marked_from
from_place n [] k h = absurd (false≢true h)
from_place n (true ∷ marks) zero h = inl (omega arith)
from_place n (true ∷ marks) (suc k) h = inr
    (subst (λ (x : ℕ). IsIn x (marked_from (suc n) marks)) (omega arith) (from_place (suc n) marks k h))
from_place n (false ∷ marks) zero h = absurd (false≢true h)
from_place n (false ∷ marks) (suc k) h = subst (λ (x : ℕ). IsIn x (marked_from (suc n) marks)) (omega arith) (from_place (suc n) marks k h)

in_contains : (x : ℕ) (xs : List ℕ) → IsIn x xs → Contains xs x
in_contains x [] h = absurd h
in_contains x (y ∷ ys) (inl s) = (0, omega arith, sym s)
in_contains x (y ∷ ys) (inr t) = let p = in_contains x ys t in (suc p.0, omega (arith, p.1), p.2)

contains_in : (x : ℕ) (xs : List ℕ) → Contains xs x → IsIn x xs
contains_in x [] (k, l, e) = absurd (omega (arith, l))
contains_in x (y ∷ ys) (zero, l, e) = inl (sym e)
contains_in x (y ∷ ys) (suc k, l, e) = inr (contains_in x ys (k, omega (arith, l), e))

pub region_of : (heap : Heap) (value : Value) (marks : List Bool) (numbers : List ℕ) → numbers ≡ marked_from 0 marks
    → ((b : ℕ) → IsMarked marks b ↔ Region heap value b) → IsRegion heap value numbers
region_of heap value marks numbers e exact = subst (λ (xs : List ℕ). IsRegion heap value xs) (sym e) (record {
  rising = rising_from 0 marks;
  exact = λ b. (
    λ h. let p = to_place 0 marks b (contains_in b (marked_from 0 marks) h) in (exact b).0
        (subst (λ (x : ℕ). IsMarked marks x) (omega (arith, p.1.0)) p.1.1),
    λ r. in_contains b (marked_from 0 marks)
        (subst (λ (x : ℕ). IsIn x (marked_from 0 marks)) (omega arith) (from_place 0 marks b ((exact b).1 r))),
  );
})

pub no_more : (marks : List Bool) (i : ℕ) (numbers : List ℕ) → length marks ≤ i
    → numbers ++ marked_from i (drop i marks) ≡ marked_from 0 marks → numbers ≡ marked_from 0 marks
unfolding marked_from
no_more marks i numbers l e = sym (append-nil numbers) ∙ (rw (drop_all i marks l) at e)

taken_if : (m : Bool) (rest : List Bool) (i : ℕ) (numbers : List ℕ) → m ≡ true
    → numbers ++ marked_from i (m ∷ rest) ≡ (numbers ++ i ∷ []) ++ marked_from (suc i) rest
unfolding marked_from
taken_if true rest i numbers e = sym (append_assoc numbers (i ∷ []) (marked_from (suc i) rest))
taken_if false rest i numbers e = absurd (false≢true e)

left_if : (m : Bool) (rest : List Bool) (i : ℕ) (numbers : List ℕ) → m ≡ false
    → numbers ++ marked_from i (m ∷ rest) ≡ numbers ++ marked_from (suc i) rest
unfolding marked_from
left_if true rest i numbers e = absurd (false≢true (sym e))
left_if false rest i numbers e = refl

pub taken : (marks : List Bool) (i : ℕ) (numbers after : List ℕ) → i < length marks → get_or marks i false ≡ true
    → after ≡ numbers ++ i ∷ [] → numbers ++ marked_from i (drop i marks) ≡ marked_from 0 marks
    → after ++ marked_from (i + 1) (drop (i + 1) marks) ≡ marked_from 0 marks
taken marks i numbers after l m a e =
    let step : numbers ++ marked_from i (drop i marks) ≡ (numbers ++ i ∷ []) ++ marked_from (suc i) (drop (suc i) marks) = rw
    (drop-cons marks i false) (taken_if (get_or marks i false) (drop (suc i) marks) i numbers m) in
    rw (a, add-one) (sym step ∙ e)

pub left : (marks : List Bool) (i : ℕ) (numbers : List ℕ) → i < length marks → get_or marks i false ≡ false
    → numbers ++ marked_from i (drop i marks) ≡ marked_from 0 marks
    → numbers ++ marked_from (i + 1) (drop (i + 1) marks) ≡ marked_from 0 marks
left marks i numbers l m e =
    let step : numbers ++ marked_from i (drop i marks) ≡ numbers ++ marked_from (suc i) (drop (suc i) marks) = rw
    (drop-cons marks i false) (left_if (get_or marks i false) (drop (suc i) marks) i numbers m) in
    rw add-one (sym step ∙ e)
