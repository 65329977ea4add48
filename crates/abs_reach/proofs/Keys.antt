-- Where an id stands among pairs whose keys rise.
use Rattle.std.proofs.Common.{◌≡◌, ℕ, zero, suc, ◌+◌, ◌-◌, ◌/◌, ◌<◌, ◌≤◌, ◌==◌, Bool, List, [], ◌∷◌, length, get_or, Option, Some}
use Rattle.std.proofs.Common.{None, inl, inr, refl, ap, ◌∙◌, arith, eq-eqb, ne_eqb, if◌then◌else◌}
use Rattle.std.proofs.lemmas.Bool.{cases_lt}
use Rattle.std.proofs.lemmas.List.{get_or_default}
use Rattle.abs_reach.specs.Keys.{AreKeysRising, IsKeyAt, IsNoKey}

-- keys are at least where they begin
low_at : {X : Type 0} (low : ℕ) (pairs : List (ℕ × X)) (k : ℕ) (d : ℕ × X) → AreKeysRising low pairs → k < length pairs
    → low ≤ (get_or pairs k d).0
low_at low [] k d r l = absurd (omega (arith, l))
low_at low (c ∷ pairs) zero d r l = r.0
low_at low (c ∷ pairs) (suc k) d r l = let h = low_at (suc c.0) pairs k d r.1 (omega (arith, l)) in omega (arith, h, r.0)

pub rises : {X : Type 0} (low : ℕ) (pairs : List (ℕ × X)) (j k : ℕ) (d : ℕ × X) → AreKeysRising low pairs → j < k → k < length pairs
    → (get_or pairs j d).0 < (get_or pairs k d).0
rises low [] j k d r l m = absurd (omega (arith, m))
rises low (c ∷ pairs) zero zero d r l m = absurd (omega (arith, l))
rises low (c ∷ pairs) zero (suc k) d r l m = let h = low_at (suc c.0) pairs k d r.1 (omega (arith, m)) in omega (arith, h)
rises low (c ∷ pairs) (suc j) zero d r l m = absurd (omega (arith, l))
rises low (c ∷ pairs) (suc j) (suc k) d r l m = rises (suc c.0) pairs j k d r.1 (omega (arith, l)) (omega (arith, m))

rises_to : {X : Type 0} (pairs : List (ℕ × X)) (j k : ℕ) (d : ℕ × X) → AreKeysRising 0 pairs → j ≤ k → k < length pairs
    → (get_or pairs j d).0 ≤ (get_or pairs k d).0
rises_to pairs j k d r l m = elim (cases_lt j k) [
  | inl n ↦ let h = rises 0 pairs j k d r n m in omega (arith, h)
  | inr n ↦
      let e : j ≡ k = omega (arith, l, n) in
      let f : (get_or pairs j d).0 ≡ (get_or pairs k d).0 = ap (λ (i : ℕ). (get_or pairs i d).0) e in
      omega (arith, f)
]

-- ---- what a key has, for a look-up that takes the first pair with the key

module _ {X : Type 0} (look : List (ℕ × X) → ℕ → Option X) (empty : (id : ℕ) → look [] id ≡ None)
    (one : (c : ℕ × X) (pairs : List (ℕ × X)) (id : ℕ) → look (c ∷ pairs) id ≡ (if c.0 == id then Some c.1 else look pairs id)) where
  pub stands : (low : ℕ) (pairs : List (ℕ × X)) (id k : ℕ) (d : ℕ × X) → AreKeysRising low pairs → k < length pairs
      → (get_or pairs k d).0 ≡ id → look pairs id ≡ Some (get_or pairs k d).1
  stands low [] id k d r l e = absurd (omega (arith, l))
  stands low (c ∷ pairs) id zero d r l e = one c pairs id ∙ ap (λ (b : Bool). if b then Some c.1 else look pairs id) (eq-eqb c.0 id e)
  stands low (c ∷ pairs) id (suc k) d r l e =
      let h = low_at (suc c.0) pairs k d r.1 (omega (arith, l)) in
      one c pairs id ∙ ap (λ (b : Bool). if b then Some c.1 else look pairs id) (ne_eqb c.0 id (λ (f : c.0 ≡ id). omega (arith, h, e, f)))
      ∙ stands (suc c.0) pairs id k d r.1 (omega (arith, l)) e

  pub none : (pairs : List (ℕ × X)) (id : ℕ) → IsNoKey pairs id → look pairs id ≡ None
  none [] id h = empty id
  none (c ∷ pairs) id h =
      one c pairs id ∙ ap (λ (b : Bool). if b then Some c.1 else look pairs id) (ne_eqb c.0 id (h zero c (omega arith)))
      ∙ none pairs id (λ k d l. h (suc k) d (omega (arith, l)))

-- ---- halving

abbrev pub middle : ℕ → ℕ → ℕ
middle low high = low + (high - low) / 2

pub middle_in : (low high : ℕ) → low < high → (low ≤ middle low high) × (middle low high < high)
middle_in low high l = (omega arith, omega arith)

module _ {X : Type 0} (pairs : List (ℕ × X)) (id low high : ℕ) (r : ℕ × X) (rising : AreKeysRising 0 pairs) (l : low < high)
    (m : high ≤ length pairs) where
  inside : middle low high < length pairs
  inside = let h = middle_in low high l in omega (arith, h.1, m)

  id_there : (d : ℕ × X) → (get_or pairs (middle low high) d).0 ≡ (get_or pairs (middle low high) r).0
  id_there d = ap (λ (c : ℕ × X). c.0) (get_or_default pairs (middle low high) d r inside)

  pub found : (get_or pairs (middle low high) r).0 ≡ id → IsKeyAt pairs id (middle low high)
  found e = (inside, λ d. id_there d ∙ e)

  pub up_to : (get_or pairs (middle low high) r).0 < id → (k : ℕ) (d : ℕ × X) → k < middle low high + 1 → (get_or pairs k d).0 < id
  up_to e k d n = let h = rises_to pairs k (middle low high) d rising (omega (arith, n)) inside in let f = id_there d in omega
      (arith, h, f, e)

  pub from : id < (get_or pairs (middle low high) r).0 → (k : ℕ) (d : ℕ × X) → middle low high ≤ k → k < length pairs
      → id < (get_or pairs k d).0
  from e k d n o = let h = rises_to pairs (middle low high) k d rising n o in let f = id_there d in omega (arith, h, f, e)

pub nowhere : {X : Type 0} (pairs : List (ℕ × X)) (id low high : ℕ) → high ≤ low
    → ((k : ℕ) (d : ℕ × X) → k < low → (get_or pairs k d).0 < id)
    → ((k : ℕ) (d : ℕ × X) → high ≤ k → k < length pairs → id < (get_or pairs k d).0) → IsNoKey pairs id
nowhere pairs id low high l below above k d m e = elim (cases_lt k low) [
  | inl n ↦ let h = below k d n in omega (arith, h, e)
  | inr n ↦ let h = above k d (omega (arith, n, l)) m in omega (arith, h, e)
]
