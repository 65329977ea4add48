-- Ids with their numbers: keys that rise, each beside its place.
use Rattle.std.proofs.Common.{◌≡◌, ℕ, zero, suc, ◌+◌, ◌<◌, ◌≤◌, Bool, true, false, cond, eqb, List, [], ◌∷◌, length, map, get_or}
use Rattle.std.proofs.Common.{refl, sym, ap, subst, ◌∙◌, arith}
use Rattle.std.specs.Prelude.{filter}
use Rattle.std.proofs.lemmas.Bool.{eq-eqb, ne_eqb}
use Rattle.abs_cells.specs.declared.cells.Cell.{Cell}
use Rattle.abs_cells.specs.AbstractStates.{AbstractState}
use Rattle.abs_cells.specs.Sound.{IsWellFormed, AreIdsRising}
use Rattle.abs_reach.specs.Keys.{AreKeysRising, IsKeyAt, IsNoKey}
use Rattle.path_rules.specs.Rules.{is_variable, place_of, variables}
use Rattle.path_rules.specs.Sizing.{numbered}
use Rattle.path_rules.proofs.Finding.{ids_in_cells}

pub numbered_long : (n : ℕ) (ids : List ℕ) → length (numbered n ids) ≡ length ids
numbered_long n [] = refl
numbered_long n (id ∷ ids) = ap suc (numbered_long (suc n) ids)

-- the number at a place
number_at : (n : ℕ) (ids : List ℕ) (k : ℕ) (d : ℕ × ℕ) → k < length ids → (get_or (numbered n ids) k d).1 ≡ n + k
number_at n [] k d l = absurd (omega (arith, l))
number_at n (id ∷ ids) zero d l = omega arith
number_at n (id ∷ ids) (suc k) d l = let h = number_at (suc n) ids k d (omega (arith, l)) in omega (arith, h)

-- a key's place is that of the id
place_is : (n low : ℕ) (ids : List ℕ) (id k : ℕ) (d : ℕ × ℕ) → AreKeysRising low (numbered n ids) → k < length ids
    → (get_or (numbered n ids) k d).0 ≡ id → place_of ids id ≡ k
place_is n low [] id k d rising l e = absurd (omega (arith, l))
place_is n low (first ∷ ids) id zero d rising l e = ap (λ (b : Bool). cond b 0 (suc (place_of ids id))) (eq-eqb first id e)
place_is n low (first ∷ ids) id (suc k) d rising l e =
    let above = keys_above (suc n) (suc first) ids k d rising.1 (omega (arith, l)) in
    ap (λ (b : Bool). cond b 0 (suc (place_of ids id))) (ne_eqb first id (λ (s : first ≡ id). omega (arith, above, e, s)))
    ∙ ap suc (place_is (suc n) (suc first) ids id k d rising.1 (omega (arith, l)) e)
  where
    keys_above : (m bound : ℕ) (rest : List ℕ) (j : ℕ) (c : ℕ × ℕ) → AreKeysRising bound (numbered m rest) → j < length rest
        → bound ≤ (get_or (numbered m rest) j c).0
    keys_above m bound [] j c r w = absurd (omega (arith, w))
    keys_above m bound (x ∷ rest) zero c r w = r.0
    keys_above m bound (x ∷ rest) (suc j) c r w = let h = keys_above (suc m) (suc x) rest j c r.1 (omega (arith, w)) in let k = r.0
        in omega (arith, h, k)

no_place : (n : ℕ) (ids : List ℕ) (id : ℕ) → IsNoKey (numbered n ids) id → place_of ids id ≡ length ids
no_place n [] id none = refl
no_place n (first ∷ ids) id none =
    ap (λ (b : Bool). cond b 0 (suc (place_of ids id))) (ne_eqb first id (none zero (first, n) (omega arith)))
    ∙ ap suc (no_place (suc n) ids id (λ k d l. none (suc k) d (omega (arith, l))))

pub number_there : (numbers : List (ℕ × ℕ)) (id k : ℕ) (d : ℕ × ℕ) (ids : List ℕ) → AreKeysRising 0 numbers → IsKeyAt numbers id k
    → numbers ≡ numbered 0 ids → (get_or numbers k d).1 ≡ place_of ids id
number_there numbers id k d ids rising at is =
    let here = subst (λ (ps : List (ℕ × ℕ)). IsKeyAt ps id k) is at in
    let long = numbered_long 0 ids in
    let low = here.0 in
    let within : k < length ids = omega (arith, long, low) in
    let number = number_at 0 ids k d within in
    let place = place_is 0 0 ids id k d (subst (AreKeysRising 0) is rising) within (here.1 d) in
    ap (λ (ps : List (ℕ × ℕ)). (get_or ps k d).1) is ∙ omega (arith, number, place)

pub number_missing : (numbers : List (ℕ × ℕ)) (id : ℕ) (ids : List ℕ) → IsNoKey numbers id → numbers ≡ numbered 0 ids
    → length numbers ≡ place_of ids id
number_missing numbers id ids none is = ap (λ (ps : List (ℕ × ℕ)). length ps) is
    ∙ (numbered_long 0 ids ∙ sym (no_place 0 ids id (subst (λ (ps : List (ℕ × ℕ)). IsNoKey ps id) is none)))

pub place_low : (ids : List ℕ) (id : ℕ) → place_of ids id ≤ length ids
place_low [] id = omega arith
place_low (first ∷ ids) id = at (eqb first id) (place_low ids id)
  where
    at : (b : Bool) → place_of ids id ≤ length ids → cond b 0 (suc (place_of ids id)) ≤ suc (length ids)
    at true h = omega arith
    at false h = omega (arith, h)

-- ---- the variables of a state

lower : (m from to : ℕ) (ids : List ℕ) → to ≤ from → AreKeysRising from (numbered m ids) → AreKeysRising to (numbered m ids)
lower m from to [] l r = tt
lower m from to (x ∷ ids) l r = let k = r.0 in (omega (arith, k, l), r.1)

rising_on : (n low : ℕ) (c : ℕ × Cell) (cells : List (ℕ × Cell)) (kept : Bool) → low ≤ c.0
    → ((m : ℕ) → AreKeysRising (suc c.0) (numbered m (ids_in_cells is_variable cells))) →
    AreKeysRising low (numbered n
    (map (λ (x : ℕ × Cell). x.0)
    (cond kept (c ∷ filter (λ (x : ℕ × Cell). is_variable x.1) cells) (filter (λ (x : ℕ × Cell). is_variable x.1) cells))))
rising_on n low c cells true l rest = (l, rest (suc n))
rising_on n low c cells false l rest = lower n (suc c.0) low (ids_in_cells is_variable cells) (omega (arith, l)) (rest n)

rising_in : (n low : ℕ) (cells : List (ℕ × Cell)) → AreIdsRising low cells
    → AreKeysRising low (numbered n (ids_in_cells is_variable cells))
rising_in n low [] rising = tt
rising_in n low (c ∷ cells) rising = rising_on n low c cells (is_variable c.1) rising.0 (λ m. rising_in m (suc c.0) cells rising.1.1)

pub numbers_rise : (state : AbstractState) (numbers : List (ℕ × ℕ)) → IsWellFormed state → numbers ≡ numbered 0 (variables state)
    → AreKeysRising 0 numbers
numbers_rise state numbers good is = subst (AreKeysRising 0) (sym is) (rising_in 0 0 state.cells good.rising)

kept_short : (cells : List (ℕ × Cell)) → length (ids_in_cells is_variable cells) ≤ length cells
kept_short [] = omega arith
kept_short (c ∷ cells) = at (is_variable c.1) (kept_short cells)
  where
    at : (b : Bool) → length (ids_in_cells is_variable cells) ≤ length cells
        → length (map (λ (x : ℕ × Cell). x.0)
        (cond b (c ∷ filter (λ (x : ℕ × Cell). is_variable x.1) cells) (filter (λ (x : ℕ × Cell). is_variable x.1) cells))) ≤ suc
        (length cells)
    at true l = omega (arith, l)
    at false l = omega (arith, l)

short_from : (low : ℕ) (cells : List (ℕ × Cell)) → AreIdsRising low cells → low ≤ 2048 → low + length cells ≤ 2048
short_from low [] rising l = omega (arith, l)
short_from low (c ∷ cells) rising l =
    let at = rising.0 in
    let below = rising.1.0 in
    let more = short_from (suc c.0) cells rising.1.1 (omega (arith, below)) in
    omega (arith, at, more)

-- a state has at most 2,048 cells
pub short : (state : AbstractState) → IsWellFormed state → length state.cells ≤ 2048
short state good = let k = short_from 0 state.cells good.rising (omega arith) in omega (arith, k)

pub few_variables : (state : AbstractState) → IsWellFormed state → length (variables state) ≤ 2048
few_variables state good = let k = short state good in let l = kept_short state.cells in omega (arith, k, l)

pub few_numbers : (state : AbstractState) (numbers : List (ℕ × ℕ)) → IsWellFormed state → numbers ≡ numbered 0 (variables state)
    → length numbers ≤ 2048
few_numbers state numbers good is = let k = few_variables state good in let l = ap (λ (ps : List (ℕ × ℕ)). length ps) is in let m =
    numbered_long 0 (variables state) in omega (arith, k, l, m)
