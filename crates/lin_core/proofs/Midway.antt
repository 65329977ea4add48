-- A row that is added term by term.
use Rattle.std.proofs.Common.{◌≡◌, ◌≢◌, ℕ, suc, ◌+◌, ◌^◌, ◌≤◌, ◌<◌, Bool, true, false, cond, eqb, List, ◌∷◌, length, get_or, set}
use Rattle.std.proofs.Common.{drop, ℤ, pos, ◌+ℤ◌, ◌*ℤ◌, subst, ap, arith, refl, ◌∙◌, sym}
use Rattle.std.specs.Prelude.{unsigned_abs}
use Rattle.std.proofs.lemmas.Int.{ints}
use Rattle.std.proofs.lemmas.Bool.{eqb-true, eq-eqb}
use Rattle.std.proofs.lemmas.List.{get_or-set_same, get_or-set_other, length-set, at_drop_more, at_drop_all}
use Rattle.list_views.proofs.Orders.{size_of_sum}
use Rattle.lin_core.specs.Rows.{coefficient_of, RiseFrom}
use Rattle.lin_core.specs.Sums.{Sum, variables, coefficient_in}
use Rattle.list_views.proofs.Ring.{times_plus}
use Rattle.lin_core.proofs.Signs.{mul-zero_ℤ}
use Rattle.lin_core.specs.Steps.{AddsMultiple}

-- `rest` is left of the terms `all`: it rises from `low`, and from there on no coefficient has changed yet
pub record IsMidway (all rest : List (ℕ × ℤ)) (by : ℤ) (old now : Sum) : Type 0 where
  pub count : variables now ≡ variables old
  pub constant : now.constant ≡ old.constant
  pub low : ℕ
  pub rise : RiseFrom low (variables old) rest
  pub untouched : (x : ℕ) → low ≤ x → coefficient_in now x ≡ coefficient_in old x
  pub sum : (x : ℕ) → coefficient_in now x +ℤ by *ℤ coefficient_of x rest ≡ coefficient_in old x +ℤ by *ℤ coefficient_of x all
  pub growth : (x : ℕ) → unsigned_abs (coefficient_in now x) ≤ unsigned_abs (coefficient_in old x) + 2 ^ 94

pub written_at : (numbers : List ℤ) (y x : ℕ) (v : ℤ) (t : Bool) → y < length numbers → eqb y x ≡ t
    → get_or (set numbers y v) x (pos 0) ≡ cond t v (get_or numbers x (pos 0))
written_at numbers y x v true h e = subst (λ (z : ℕ). get_or (set numbers y v) z (pos 0) ≡ v) (eqb-true y x e)
    (get_or-set_same numbers y v (pos 0) h)
written_at numbers y x v false h e = get_or-set_other numbers y x v (pos 0) (λ same. cc (eq-eqb y x (sym same)))

-- one number of the sum, where its term has come (`here`) and where it has not
one_sum : (here : Bool) (next now old by k rest all : ℤ) → next ≡ cond here (now +ℤ by *ℤ k) now
    → now +ℤ by *ℤ (cond here k (pos 0) +ℤ rest) ≡ old +ℤ by *ℤ all → next +ℤ by *ℤ rest ≡ old +ℤ by *ℤ all
one_sum true next now old by k rest all e h =
    let d = times_plus by k rest in
    omega (arith, ints)
one_sum false next now old by k rest all e h =
    let d : pos 0 +ℤ rest ≡ rest = omega (arith, ints) in
    rw e (rw d at h)

one_growth : (here : Bool) (next now old p : ℤ) → next ≡ cond here (now +ℤ p) now → (here ≡ true → now ≡ old)
    → unsigned_abs p ≤ 2 ^ 94 → unsigned_abs now ≤ unsigned_abs old + 2 ^ 94 → unsigned_abs next ≤ unsigned_abs old + 2 ^ 94
one_growth true next now old p e same h g = rw (e, same refl) (omega (arith, size_of_sum old p))
one_growth false next now old p e same h g = rw e g

same_place : (now : Sum) (y x : ℕ) (p : ℤ) (t : Bool) → eqb y x ≡ t
    → cond t (coefficient_in now y +ℤ p) (coefficient_in now x) ≡ cond t (coefficient_in now x +ℤ p) (coefficient_in now x)
same_place now y x p true e = ap (λ (z : ℕ). coefficient_in now z +ℤ p) (eqb-true y x e)
same_place now y x p false e = refl

other_place : (t : Bool) (y x : ℕ) (a b : ℤ) → eqb y x ≡ t → y ≢ x → cond t a b ≡ b
other_place true y x a b e far = absurd (far (eqb-true y x e))
other_place false y x a b e far = refl

pub no_rest : (now by all : ℤ) → now +ℤ by *ℤ pos 0 ≡ all → now ≡ all
no_rest now by all h =
    let z = mul-zero_ℤ by in
    omega (arith, ints)

-- a term is added
midway_step : (all rest : List (ℕ × ℤ)) (term : ℕ × ℤ) (by p : ℤ) (old now next : Sum) → IsMidway all (term ∷ rest) by old now
    → p ≡ by *ℤ term.1 → unsigned_abs p ≤ 2 ^ 94
    → next ≡ record { coefficients = set now.coefficients term.0 (coefficient_in now term.0 +ℤ p); constant = now.constant }
    → IsMidway all rest by old next
midway_step all rest term by p old now next h product small e =
    let inside : term.0 < length now.coefficients = omega (arith, h.count) in
    let at : (x : ℕ) → coefficient_in next x ≡ cond (eqb term.0 x) (coefficient_in now term.0 +ℤ p) (coefficient_in now x) = λ x. ap
    (λ (s : Sum). coefficient_in s x) e ∙ written_at now.coefficients term.0 x (coefficient_in now term.0 +ℤ p) (eqb term.0 x)
    inside refl in
    let here : (x : ℕ) → coefficient_in next x ≡ cond (eqb term.0 x) (coefficient_in now x +ℤ p) (coefficient_in now x) = λ x. at x
    ∙ same_place now term.0 x p (eqb term.0 x) refl in
    record {
      count = ap (λ (s : Sum). variables s) e ∙ length-set now.coefficients term.0 (coefficient_in now term.0 +ℤ p) ∙ h.count;
      constant = ap (λ (s : Sum). s.constant) e ∙ h.constant;
      low = suc term.0;
      rise = h.rise.2;
      untouched = λ x far. at x ∙ other_place (eqb term.0 x) term.0 x _ _ refl (omega arith) ∙ h.untouched x (omega (arith, h.rise.0));
      sum = λ x. one_sum (eqb term.0 x) (coefficient_in next x) (coefficient_in now x) (coefficient_in old x) by term.1
          (coefficient_of x rest) (coefficient_of x all) (rw product at here x) (h.sum x);
      growth = λ x. one_growth (eqb term.0 x) (coefficient_in next x) (coefficient_in now x) (coefficient_in old x) p (here x)
          (λ t. h.untouched x (subst (λ (z : ℕ). h.low ≤ z) (eqb-true term.0 x t) h.rise.0)) small (h.growth x);
    }

pub midway_more : (all items : List (ℕ × ℤ)) (i : ℕ) (by p : ℤ) (old now next : Sum) → i < length items
    → IsMidway all (drop i items) by old now → p ≡ by *ℤ (get_or items i (0, pos 0)).1 → unsigned_abs p ≤ 2 ^ 94
    → next ≡ record {
      coefficients = set now.coefficients (get_or items i (0, pos 0)).0
          (coefficient_in now (get_or items i (0, pos 0)).0 +ℤ p);
      constant = now.constant;
    } → IsMidway all (drop (i + 1) items) by old next
midway_more all items i by p old now next in' h product small e =
    let split = at_drop_more (λ (xs : List (ℕ × ℤ)). xs) items i (0, pos 0) in' in
    midway_step all (drop (i + 1) items) (get_or items i (0, pos 0)) by p old now next
    (subst (λ (xs : List (ℕ × ℤ)). IsMidway all xs by old now) split h) product small e

-- nothing is left
pub midway_last : (terms : List (ℕ × ℤ)) (constant : ℤ) (items : List (ℕ × ℤ)) (i : ℕ) (by p : ℤ) (old now new : Sum)
    → length items ≤ i → IsMidway terms (drop i items) by old now → new.coefficients ≡ now.coefficients
    → new.constant ≡ old.constant +ℤ p → p ≡ by *ℤ constant → unsigned_abs p ≤ 2 ^ 94 → AddsMultiple terms constant by old new
midway_last terms constant items i by p old now new end h same total product small =
    let none = at_drop_all (λ (xs : List (ℕ × ℤ)). xs) items i end in
    let m = subst (λ (xs : List (ℕ × ℤ)). IsMidway terms xs by old now) none h in
    record {
      count = ap length same ∙ m.count;
      coefficients = λ x. ap (λ (xs : List ℤ). get_or xs x (pos 0)) same ∙ no_rest (coefficient_in now x) by _ (m.sum x);
      constant = rw (← product) total;
      growth = λ x. rw same (m.growth x);
      constant_growth = rw total (omega (arith, size_of_sum old.constant p));
    }
