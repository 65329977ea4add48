-- Patterns that a list gives to rising ids.
use Rattle.std.proofs.Common.{◌≡◌, ℕ, suc, ◌≤◌, Bool, true, false, cond, eqb, List, [], ◌∷◌, Some, ap, arith, refl, ◌∙◌}
use Rattle.std.proofs.lemmas.Bool.{eq-eqb, ne_eqb, eqb-true}
use Rattle.std.proofs.lemmas.Option.{none-some}
use Rattle.abs_cells.specs.Patterns.{Pattern}
use Rattle.abs_reach.specs.Keys.{AreKeysRising}
use Rattle.path_rules.specs.Stops.{pattern_in}

pub pattern_first : (entry : ℕ × Pattern) (sizes : List (ℕ × Pattern)) → pattern_in (entry ∷ sizes) entry.0 ≡ Some entry.1
pattern_first entry sizes = ap (λ (b : Bool). cond b (Some entry.1) (pattern_in sizes entry.0)) (eq-eqb entry.0 entry.0 refl)

pub pattern_past : (entry : ℕ × Pattern) (sizes : List (ℕ × Pattern)) (id : ℕ) → (entry.0 ≡ id → ⊥)
    → pattern_in (entry ∷ sizes) id ≡ pattern_in sizes id
pattern_past entry sizes id other = ap (λ (b : Bool). cond b (Some entry.1) (pattern_in sizes id)) (ne_eqb entry.0 id other)

low_pattern : (low : ℕ) (sizes : List (ℕ × Pattern)) (id : ℕ) (pattern : Pattern) → AreKeysRising low sizes
    → pattern_in sizes id ≡ Some pattern → low ≤ id
low_pattern low [] id pattern rise e = absurd (none-some pattern e)
low_pattern low (entry ∷ sizes) id pattern rise e = at (eqb entry.0 id) refl e (λ k. low_pattern (suc entry.0) sizes id pattern rise.1 k)
  where
    at : (b : Bool) → eqb entry.0 id ≡ b → cond b (Some entry.1) (pattern_in sizes id) ≡ Some pattern
        → (pattern_in sizes id ≡ Some pattern → suc entry.0 ≤ id) → low ≤ id
    at true h k later = let s = eqb-true entry.0 id h in let l = rise.0 in omega (arith, s, l)
    at false h k later = let m = later k in let l = rise.0 in omega (arith, m, l)

pub pattern_later : (entry : ℕ × Pattern) (sizes : List (ℕ × Pattern)) (id : ℕ) (pattern : Pattern) → AreKeysRising (suc entry.0) sizes
    → pattern_in sizes id ≡ Some pattern → pattern_in (entry ∷ sizes) id ≡ Some pattern
pattern_later entry sizes id pattern rise e =
    let low = low_pattern (suc entry.0) sizes id pattern rise e in
    pattern_past entry sizes id (λ same. omega (arith, low, same)) ∙ e
