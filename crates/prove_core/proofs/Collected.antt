-- Collected terms are no more than the terms, and their coefficients together are no greater in size.
use Rattle.std.proofs.Common.{◌≡◌, ℕ, suc, ◌+◌, ◌≤◌, Bool, true, false, cond, eqb, List, [], ◌∷◌, length, ℤ, pos, ◌+ℤ◌, ap, arith}
use Rattle.std.specs.Prelude.{nat_lt, unsigned_abs}
use Rattle.std.specs.Ordering.{int_eq}
use Rattle.list_views.proofs.Orders.{size_of_sum}
use Rattle.lin_core.specs.Weights.{total_size}
use Rattle.term_enc.specs.Sizes.{unless_zero, with_term, collected}

-- at most so many terms, with coefficients of at most a size together
pub record IsWithin (terms : List (ℕ × ℤ)) (count size : ℕ) : Type 0 where
  pub count_is : length terms ≤ count
  pub size_is : total_size terms ≤ size

unless_within : (name : ℕ) (number : ℤ) (rest : List (ℕ × ℤ)) (count size : ℕ) → IsWithin rest count size
    → IsWithin (unless_zero name number rest) (suc count) (unsigned_abs number + size)
unless_within name number rest count size w = at (int_eq number (pos 0))
  where
    at : (b : Bool) → IsWithin (cond b rest ((name, number) ∷ rest)) (suc count) (unsigned_abs number + size)
    at true = let c = w.count_is in let s = w.size_is in record { count_is = omega (arith, c); size_is = omega (arith, s) }
    at false = let c = w.count_is in let s = w.size_is in record { count_is = omega (arith, c); size_is = omega (arith, s) }

with_within : (term : ℕ × ℤ) (terms : List (ℕ × ℤ)) → IsWithin (with_term term terms) (suc (length terms))
    (unsigned_abs term.1 + total_size terms)
with_within term [] = unless_within term.0 term.1 [] 0 0 (record { count_is = omega arith; size_is = omega arith })
with_within term (first ∷ rest) = at (eqb term.0 first.0) (nat_lt term.0 first.0) (with_within term rest)
  where
    at : (same before : Bool) → IsWithin (with_term term rest) (suc (length rest)) (unsigned_abs term.1 + total_size rest)
        → IsWithin (cond same (unless_zero term.0 (term.1 +ℤ first.1) rest)
        (cond before (unless_zero term.0 term.1 (first ∷ rest)) (first ∷ with_term term rest))) (suc (suc (length rest)))
        (unsigned_abs term.1 + (unsigned_abs first.1 + total_size rest))
    at true before w =
        let here = unless_within term.0 (term.1 +ℤ first.1) rest (length rest) (total_size rest)
        (record { count_is = omega arith; size_is = omega arith }) in
        let c = here.count_is in
        let s = here.size_is in
        let sum = size_of_sum term.1 first.1 in
        record { count_is = omega (arith, c); size_is = omega (arith, s, sum) }
    at false true w =
        unless_within term.0 term.1 (first ∷ rest) (suc (length rest)) (unsigned_abs first.1 + total_size rest)
        (record { count_is = omega arith; size_is = omega arith })
    at false false w =
        let c = w.count_is in
        let s = w.size_is in
        record { count_is = omega (arith, c); size_is = omega (arith, s) }

pub collected_within : (terms : List (ℕ × ℤ)) → IsWithin (collected terms) (length terms) (total_size terms)
collected_within [] = record { count_is = omega arith; size_is = omega arith }
collected_within (term ∷ terms) =
    let w = collected_within terms in
    let here = with_within term (collected terms) in
    let c = w.count_is in
    let s = w.size_is in
    let d = here.count_is in
    let t = here.size_is in
    record { count_is = omega (arith, c, d); size_is = omega (arith, s, t) }

-- three terms that at most three with small coefficients are collected to have small coefficients
pub three_collected : (terms : List (ℕ × ℤ)) → length terms ≤ 3 → (length terms ≡ 3 → total_size terms ≤ 4096) → (a b c : ℕ × ℤ)
    → collected terms ≡ a ∷ b ∷ c ∷ [] → (unsigned_abs a.1 ≤ 4096) × (unsigned_abs b.1 ≤ 4096) × (unsigned_abs c.1 ≤ 4096)
three_collected terms few small a b c e =
    let w = collected_within terms in
    let count = w.count_is in
    let size = w.size_is in
    let long : length (collected terms) ≡ 3 = ap (λ (t : List (ℕ × ℤ)). length t) e in
    let sum : total_size (collected terms) ≡ unsigned_abs a.1 + (unsigned_abs b.1 + (unsigned_abs c.1 + 0)) = ap total_size e in
    let three : length terms ≡ 3 = omega (arith, count, long, few) in
    let most = small three in
    (omega (arith, size, sum, most), omega (arith, size, sum, most), omega (arith, size, sum, most))
