-- Decimal digits, as a loop reads them.
use Rattle.std.proofs.Common.{◌≡◌, ℕ, ◌+◌, ◌-◌, ◌*◌, ◌^◌, ◌<◌, ◌≤◌, ltb, List, [], ◌∷◌, ◌++◌, length, get_or, take, Option, Some}
use Rattle.std.proofs.Common.{None, refl, sym, ap, ◌∙◌, append_assoc, arith, inl, inr}
use Rattle.std.specs.Option.{option_map}
use Rattle.std.proofs.lemmas.Bool.{cases_Bool, ltb-false, ltb-true, lt-ltb, le-ltb}
use Rattle.std.proofs.lemmas.Grind.{take_at_read}
use Rattle.its_front.specs.text_lines.Numbers.{decimal_from, decimal, capped, grown}

decimal_behind : (front : ℕ) (digits : List ℕ) (b : ℕ) → decimal_from front (digits ++ b ∷ []) ≡ decimal_from front digits * 10 + (b - 48)
decimal_behind front [] b = refl
decimal_behind front (d ∷ digits) b = decimal_behind (front * 10 + (d - 48)) digits b

capped_some : (n : ℕ) → n < 2 ^ 64 → capped n ≡ Some n
capped_some n h = rw (lt-ltb n (2 ^ 64) h) refl

capped_none : (n : ℕ) → 2 ^ 64 ≤ n → capped n ≡ None
capped_none n h = rw (le-ltb n (2 ^ 64) h) refl

grown_capped : (n b : ℕ) → grown (capped n) b ≡ capped (n * 10 + (b - 48))
grown_capped n b = elim (cases_Bool (ltb n (2 ^ 64))) [
  | inl less ↦ ap (λ o. grown o b) (capped_some n (ltb-true n (2 ^ 64) less))
  | inr not_less ↦
      let large : 2 ^ 64 ≤ n = ltb-false n (2 ^ 64) not_less in
      ap (λ o. grown o b) (capped_none n large) ∙ sym (capped_none (n * 10 + (b - 48)) (omega arith))
]

pub grows : (digits : List ℕ) (i : ℕ) → i < length digits
    → grown (capped (decimal (take i digits))) (get_or digits i 0) ≡ capped (decimal (take (i + 1) digits))
grows digits i h =
    grown_capped (decimal (take i digits)) (get_or digits i 0)
    ∙ ap capped (sym (decimal_behind 0 (take i digits) (get_or digits i 0)))
    ∙ ap (λ ds. capped (decimal ds)) (sym (take_at_read digits i 0 h).1)
