-- What stands as a pair in a rising list: two numbers that differ, below 2,048.
use Rattle.std.proofs.Common.{◌≡◌, ◌<◌, ℕ, ◌||◌, Bool, true, false, List, [], ◌∷◌, refl, sym, subst, arith}
use Rattle.std.proofs.lemmas.Bool.{false≢true}
use Rattle.abs_cells.proofs.PairLaws.{same_is}
use Rattle.abs_cells.specs.PairLists.{IsRising, is_same, has_pair, has, pair_of}

pair_low : (p : ℕ × ℕ) (pairs : List (ℕ × ℕ)) → IsRising pairs → has_pair p pairs ≡ true → (p.0 < p.1) × (p.1 < 2048)
pair_low p [] r e = absurd (false≢true e)
pair_low p (q ∷ rest) r e = at (is_same p q) refl e (λ h. pair_low p rest r.1.1 h)
  where
    at : (b : Bool) → is_same p q ≡ b → (b || has_pair p rest) ≡ true → (has_pair p rest ≡ true → (p.0 < p.1) × (p.1 < 2048))
        → (p.0 < p.1) × (p.1 < 2048)
    at true f h later = subst (λ (x : ℕ × ℕ). (x.0 < x.1) × (x.1 < 2048)) (sym (same_is p q f)) r.0
    at false f h later = later h

-- two numbers of which one is too great are no pair, nor is a number with itself
pub no_pair : (a b : ℕ) (pairs : List (ℕ × ℕ)) → IsRising pairs → ((a ≡ b → ⊥) → a < 2048 → b < 2048 → ⊥) → has a b pairs ≡ false
no_pair a b pairs r h = at (has a b pairs) refl
  where
    at : (c : Bool) → has a b pairs ≡ c → c ≡ false
    at true e =
        let low = pair_low (pair_of a b) pairs r e in
        absurd (h (λ same. omega (arith, low.0, same)) (omega (arith, low.1)) (omega (arith, low.1)))
    at false e = refl
