-- One bit of a word, and rows of words.
use Rattle.std.proofs.Common.{◌≡◌, ℕ, zero, suc, ◌*◌, ◌/◌, ◌%◌, ◌^◌, ◌<◌, Bool, true, false, ◌&&◌, ◌||◌, eqb, List, [], ◌∷◌, inl}
use Rattle.std.proofs.Common.{inr, refl, sym, ap, ◌∙◌, w64, bit_or, bit_and, not, eq-eqb, get_or}
use Rattle.std.specs.Int.{bit_at, bit_not}
use Rattle.abs_cells.specs.IdSets.{has_bit}
use Rattle.std.proofs.lemmas.Bool.{cases_eq, ne_eqb, eqb-true, and_parts}
use Rattle.std.proofs.lemmas.Nat.Bits.{bit_at_set_same, bit_at_set_other, bit_at_clear_same, bit_at_clear_other, bit_at-zero}

-- a bit is set
pub with_bit : (word bit n : ℕ) → bit < 64 → eqb (bit_at (bit_or word (1 * 2 ^ bit % 2 ^ 64)) n) 1 ≡ (eqb n bit || eqb (bit_at word n) 1)
with_bit word bit n l = elim (cases_eq n bit) [
  | inl e ↦ ap (λ (m : ℕ). eqb (bit_at (bit_or word (1 * 2 ^ bit % 2 ^ 64)) m) 1) e
      ∙ ap (λ (b : ℕ). eqb b 1) (bit_at_set_same w64 word bit l) ∙ sym (ap (λ (t : Bool). t || eqb (bit_at word n) 1) (eq-eqb n bit e))
  | inr d ↦ ap (λ (b : ℕ). eqb b 1) (bit_at_set_other w64 word bit l n d)
      ∙ sym (ap (λ (t : Bool). t || eqb (bit_at word n) 1) (ne_eqb n bit d))
]

-- a row of zeros has no bit
abbrev pub all_zero : List ℕ → Bool
all_zero [] = true
all_zero (w ∷ words) = eqb w 0 && all_zero words

zero_word : (words : List ℕ) (n : ℕ) → all_zero words ≡ true → get_or words n 0 ≡ 0
zero_word [] n h = refl
zero_word (w ∷ words) zero h = eqb-true w 0 (and_parts (eqb w 0) (all_zero words) h).0
zero_word (w ∷ words) (suc n) h = zero_word words n (and_parts (eqb w 0) (all_zero words) h).1

pub no_bit : (words : List ℕ) (n : ℕ) → all_zero words ≡ true → has_bit words n ≡ false
no_bit words n h = ap (λ (w : ℕ). eqb (bit_at w (n % 64)) 1) (zero_word words (n / 64) h) ∙ ap (λ (b : ℕ). eqb b 1) (bit_at-zero (n % 64))

-- a bit is cleared
pub without_bit : (word bit n : ℕ) → bit < 64 → n < 64
    → eqb (bit_at (bit_and word (bit_not w64 (1 * 2 ^ bit % 2 ^ 64))) n) 1 ≡ (not (eqb n bit) && eqb (bit_at word n) 1)
without_bit word bit n l m = elim (cases_eq n bit) [
  | inl e ↦ ap (λ (k : ℕ). eqb (bit_at (bit_and word (bit_not w64 (1 * 2 ^ bit % 2 ^ 64))) k) 1) e
      ∙ ap (λ (b : ℕ). eqb b 1) (bit_at_clear_same w64 word bit l)
      ∙ sym (ap (λ (t : Bool). not t && eqb (bit_at word n) 1) (eq-eqb n bit e))
  | inr d ↦ ap (λ (b : ℕ). eqb b 1) (bit_at_clear_other w64 word bit l n m d)
      ∙ sym (ap (λ (t : Bool). not t && eqb (bit_at word n) 1) (ne_eqb n bit d))
]
