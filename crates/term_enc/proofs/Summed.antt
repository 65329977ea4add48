-- Collected terms have the value of the terms, and what stands beside each name is a multiple of the names' sum.
use Rattle.std.proofs.Common.{◌≡◌, ℕ, Bool, true, false, cond, eqb, List, [], ◌∷◌, ◌++◌, map, ℤ, pos, negsuc, ◌+ℤ◌, ◌*ℤ◌, ap, arith}
use Rattle.std.proofs.Common.{refl, ◌∙◌}
use Rattle.std.specs.Prelude.{nat_lt, All}
use Rattle.std.specs.Ordering.{int_eq}
use Rattle.std.proofs.lemmas.Int.{ints}
use Rattle.std.proofs.lemmas.Bool.{eqb-true}
use Rattle.std.proofs.lemmas.Bool.Decides.{Decides-int_eq}
use Rattle.std.proofs.lemmas.List.Elements.{All-nil, All-cons, All-head, All-tail}
use Rattle.list_views.proofs.Orders.{zero_times}
use Rattle.list_views.proofs.Ring.{plus_times}
use Rattle.lin_core.specs.Rows.{value_of_terms}
use Rattle.term_enc.specs.Sizes.{unless_zero, with_term, collected, each_times}

unless_value : (numbers : ℕ → ℤ) (name : ℕ) (number : ℤ) (rest : List (ℕ × ℤ)) (zero : Bool) → int_eq number (pos 0) ≡ zero →
    value_of_terms numbers (cond zero rest ((name, number) ∷ rest)) ≡ number *ℤ numbers name +ℤ value_of_terms numbers rest
unless_value numbers name number rest false e = refl
unless_value numbers name number rest true e =
    let none = ap (λ (n : ℤ). n *ℤ numbers name) ((Decides-int_eq number (pos 0)).0 e) ∙ zero_times (numbers name) in
    omega (arith, ints, none)

unless_is : (numbers : ℕ → ℤ) (name : ℕ) (number : ℤ) (rest : List (ℕ × ℤ))
    → value_of_terms numbers (unless_zero name number rest) ≡ number *ℤ numbers name +ℤ value_of_terms numbers rest
unless_is numbers name number rest = unless_value numbers name number rest (int_eq number (pos 0)) refl

with_value : (numbers : ℕ → ℤ) (term first : ℕ × ℤ) (rest : List (ℕ × ℤ)) (same lower : Bool) → eqb term.0 first.0 ≡ same →
    value_of_terms numbers (with_term term rest) ≡ term.1 *ℤ numbers term.0 +ℤ value_of_terms numbers rest →
    value_of_terms numbers
    (cond same (unless_zero term.0 (term.1 +ℤ first.1) rest)
    (cond lower (unless_zero term.0 term.1 (first ∷ rest)) (first ∷ with_term term rest))) ≡
    term.1 *ℤ numbers term.0 +ℤ (first.1 *ℤ numbers first.0 +ℤ value_of_terms numbers rest)
with_value numbers term first rest true lower e h =
    let sum = unless_is numbers term.0 (term.1 +ℤ first.1) rest in
    let split = plus_times term.1 first.1 (numbers term.0) in
    let there = ap (λ (n : ℕ). first.1 *ℤ numbers n) (eqb-true term.0 first.0 e) in
    omega (arith, ints, sum, split, there)
with_value numbers term first rest false true e h = unless_is numbers term.0 term.1 (first ∷ rest)
with_value numbers term first rest false false e h = omega (arith, ints, h)

with_is : (numbers : ℕ → ℤ) (term : ℕ × ℤ) (terms : List (ℕ × ℤ))
    → value_of_terms numbers (with_term term terms) ≡ term.1 *ℤ numbers term.0 +ℤ value_of_terms numbers terms
with_is numbers term [] = unless_is numbers term.0 term.1 []
with_is numbers term (first ∷ rest) = with_value numbers term first rest (eqb term.0 first.0) (nat_lt term.0 first.0) refl
    (with_is numbers term rest)

pub collected_value : (numbers : ℕ → ℤ) (terms : List (ℕ × ℤ)) → value_of_terms numbers (collected terms) ≡ value_of_terms numbers terms
collected_value numbers [] = refl
collected_value numbers (term ∷ terms) = with_is numbers term (collected terms)
    ∙ ap (λ (z : ℤ). term.1 *ℤ numbers term.0 +ℤ z) (collected_value numbers terms)

-- ---- sums over names

abbrev pub sum_over : (ℕ → ℤ) → List ℕ → ℤ
sum_over numbers [] = pos 0
sum_over numbers (name ∷ names) = numbers name +ℤ sum_over numbers names

pub sum_both : (numbers : ℕ → ℤ) (xs ys : List ℕ) → sum_over numbers (xs ++ ys) ≡ sum_over numbers xs +ℤ sum_over numbers ys
sum_both numbers [] ys = omega (arith, ints)
sum_both numbers (x ∷ xs) ys = let h = sum_both numbers xs ys in omega (arith, ints, h)

pub sum_mapped : (numbers : ℕ → ℤ) (place : ℕ → ℕ) (names : List ℕ)
    → sum_over numbers (map place names) ≡ sum_over (λ (name : ℕ). numbers (place name)) names
sum_mapped numbers place [] = refl
sum_mapped numbers place (name ∷ names) = ap (λ (z : ℤ). numbers (place name) +ℤ z) (sum_mapped numbers place names)

once : (n : ℤ) → pos 1 *ℤ n ≡ n
once n = omega (arith, ints)

less_once : (n : ℤ) → negsuc 0 *ℤ n +ℤ n ≡ pos 0
less_once n = omega (arith, ints)

pub each_once : (numbers : ℕ → ℤ) (names : List ℕ) → value_of_terms numbers (each_times (pos 1) names) ≡ sum_over numbers names
each_once numbers [] = refl
each_once numbers (name ∷ names) = let h = each_once numbers names in let o = once (numbers name) in omega (arith, ints, h, o)

pub each_less : (numbers : ℕ → ℤ) (names : List ℕ) → value_of_terms numbers (each_times (negsuc 0) names) +ℤ sum_over numbers names ≡ pos 0
each_less numbers [] = refl
each_less numbers (name ∷ names) = let h = each_less numbers names in let o = less_once (numbers name) in omega (arith, ints, h, o)

-- ---- each of two lists

pub all_split : (P : ℕ → Type 0) (xs ys : List ℕ) → All P (xs ++ ys) → All P xs × All P ys
all_split P [] ys h = (All-nil P, h)
all_split P (x ∷ xs) ys h =
    let r = all_split P xs ys (All-tail P x (xs ++ ys) h) in
    (All-cons P x xs (All-head P x (xs ++ ys) h) r.0, r.1)
