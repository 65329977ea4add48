-- A term among rising ones, and terms of links.
use Rattle.std.proofs.Common.{◌≡◌, inl, inr, ℕ, zero, suc, ◌+◌, ◌-◌, ◌<◌, ◌≤◌, ◌^◌, Bool, true, false, cond, eqb, List, [], ◌∷◌}
use Rattle.std.proofs.Common.{◌++◌, length, map, take, drop, get_or, ℤ, pos, ◌+ℤ◌, subst, ap, arith, refl, ◌∙◌, sym}
use Rattle.std.specs.Prelude.{nat_lt, slice_get, unsigned_abs, Result, Ok, Err, IfOk}
use Rattle.std.specs.Ordering.{int_eq}
use Rattle.std.proofs.Math.ListN.{drop_of_length-le}
use Rattle.std.proofs.Math.Seq.{drop-cons}
use Rattle.std.proofs.lemmas.Bool.{cases_eq, cases_lt, eqb-true, eqb-false, eq-eqb, ltb-false, false≢true}
use Rattle.std.proofs.lemmas.List.{append_assoc}
use Rattle.list_views.proofs.Orders.{size_of_sum}
use Rattle.lin_core.specs.Weights.{total_size}
use Rattle.term_graph.specs.declared.links.Side.{Side}
use Rattle.abs_cells.specs.AbstractStates.{AbstractState}
use Rattle.term_enc.specs.Sizes.{unless_zero, with_term, collected}
use Rattle.path_rules.specs.inner.Building.{size_of_terms, is_term_of, variable_by}

-- a term comes behind the first so many
abbrev pub IsSplit : ℕ → List (ℕ × ℤ) → ℕ → Type 0
IsSplit variable terms i = (number : ℤ) → with_term (variable, number) terms ≡ take i terms ++ with_term (variable, number) (drop i terms)

one_on : (n : ℕ) → n + 1 ≡ suc n
one_on n = omega arith

apart : (name : ℕ) (number : ℤ) (rest : List (ℕ × ℤ)) → unless_zero name number rest ≡ unless_zero name number [] ++ rest
apart name number rest = at (int_eq number (pos 0))
  where
    at : (b : Bool) → cond b rest ((name, number) ∷ rest) ≡ cond b [] ((name, number) ∷ []) ++ rest
    at true = refl
    at false = refl

same_here : (term : ℕ × ℤ) (terms all : List (ℕ × ℤ)) (sum : ℤ) (place : ℕ) (d : ℕ × ℤ) → place < length terms
    → (get_or terms place d).0 ≡ term.0 → IsSplit term.0 terms place → sum ≡ term.1 +ℤ (get_or terms place d).1
    → all ≡ (take place terms ++ unless_zero term.0 sum []) ++ drop (place + 1) terms → all ≡ with_term term terms
same_here term terms all sum place d l same split sum_is all_is =
    all_is
    ∙ (append_assoc (take place terms) (unless_zero term.0 sum []) (drop (place + 1) terms)
    ∙ (ap (λ (t : List (ℕ × ℤ)). take place terms ++ t) (sym (apart term.0 sum (drop (place + 1) terms))
    ∙ (ap (λ (n : ℕ). unless_zero term.0 sum (drop n terms)) (one_on place)
    ∙ (ap (λ (z : ℤ). unless_zero term.0 z (drop (suc place) terms)) sum_is
    ∙ sym (found term (get_or terms place d) (drop (suc place) terms) (eq-eqb term.0 (get_or terms place d).0 (sym same))))))
    ∙ (ap (λ (t : List (ℕ × ℤ)). take place terms ++ with_term term t) (sym (drop-cons terms place d l))
    ∙ sym (split term.1))))
  where
    found : (t first : ℕ × ℤ) (rest : List (ℕ × ℤ)) → eqb t.0 first.0 ≡ true
        → with_term t (first ∷ rest) ≡ unless_zero t.0 (t.1 +ℤ first.1) rest
    found t first rest e = rw e refl

behind : (variable : ℕ) (number : ℤ) (rest : List (ℕ × ℤ))
    → ((first : ℕ × ℤ) (more : List (ℕ × ℤ)) → rest ≡ first ∷ more → variable < first.0)
    → with_term (variable, number) rest ≡ unless_zero variable number rest
behind variable number [] low = refl
behind variable number (first ∷ more) low = at (eqb variable first.0) (nat_lt variable first.0) refl refl
  where
    at : (same lower : Bool) → eqb variable first.0 ≡ same → nat_lt variable first.0 ≡ lower
        → cond same (unless_zero variable (number +ℤ first.1) more)
        (cond lower (unless_zero variable number (first ∷ more)) (first ∷ with_term (variable, number) more)) ≡ unless_zero variable
        number (first ∷ more)
    at true lower e k = let s = eqb-true variable first.0 e in let l = low first more refl in absurd (omega (arith, s, l))
    at false true e k = refl
    at false false e k = let l = low first more refl in let m = ltb-false variable first.0 k in absurd (omega (arith, m, l))

heads : (a b : ℕ × ℤ) (xs ys : List (ℕ × ℤ)) → a ∷ xs ≡ b ∷ ys → a ≡ b
heads a b xs ys e = cc

no_head : (a : ℕ × ℤ) (xs : List (ℕ × ℤ)) → [] ≡ a ∷ xs → ⊥
no_head a xs e = cc

above_by : (variable a b : ℕ) → variable ≤ a → (a ≡ variable → ⊥) → a ≡ b → variable < b
above_by variable a b l d s = elim (cases_eq a variable) as (λ o. variable < b) [
  | inl e ↦ absurd (d e)
  | inr n ↦ omega (arith, l, n, s)
]

new_here : (term : ℕ × ℤ) (terms all : List (ℕ × ℤ)) (place : ℕ)
    → ((d : ℕ × ℤ) → place < length terms → term.0 ≤ (get_or terms place d).0)
    → ((d : ℕ × ℤ) → place < length terms → (get_or terms place d).0 ≡ term.0 → ⊥) → IsSplit term.0 terms place
    → all ≡ (take place terms ++ unless_zero term.0 term.1 []) ++ drop place terms → all ≡ with_term term terms
new_here term terms all place low other split all_is =
    all_is
    ∙ (append_assoc (take place terms) (unless_zero term.0 term.1 []) (drop place terms)
    ∙ (ap (λ (t : List (ℕ × ℤ)). take place terms ++ t) (sym (apart term.0 term.1 (drop place terms))
    ∙ sym (behind term.0 term.1 (drop place terms) above))
    ∙ sym (split term.1)))
  where
    above : (first : ℕ × ℤ) (rest : List (ℕ × ℤ)) → drop place terms ≡ first ∷ rest → term.0 < first.0
    above first rest e = elim (cases_lt place (length terms)) as (λ o. term.0 < first.0) [
      | inl l ↦ above_by term.0 (get_or terms place first).0 first.0 (low first l) (other first l)
          (ap (λ (f : ℕ × ℤ). f.0)
          (heads (get_or terms place first) first (drop (suc place) terms) rest (sym (drop-cons terms place first l) ∙ e)))
      | inr m ↦ absurd (no_head first rest (sym (drop_of_length-le terms m) ∙ e))
    ]

-- ---- a place

pub at_within : (terms : List (ℕ × ℤ)) (place variable : ℕ) → is_term_of variable (slice_get terms place) ≡ true → place < length terms
at_within [] place variable e = absurd (false≢true e)
at_within (t ∷ terms) zero variable e = omega arith
at_within (t ∷ terms) (suc place) variable e = let k = at_within terms place variable e in omega (arith, k)

at_same : (terms : List (ℕ × ℤ)) (place variable : ℕ) (d : ℕ × ℤ) → is_term_of variable (slice_get terms place) ≡ true
    → (get_or terms place d).0 ≡ variable
at_same [] place variable d e = absurd (false≢true e)
at_same (t ∷ terms) zero variable d e = eqb-true t.0 variable e
at_same (t ∷ terms) (suc place) variable d e = at_same terms place variable d e

at_other : (terms : List (ℕ × ℤ)) (place variable : ℕ) (d : ℕ × ℤ) → is_term_of variable (slice_get terms place) ≡ false
    → place < length terms → (get_or terms place d).0 ≡ variable → ⊥
at_other [] place variable d e l s = omega (arith, l)
at_other (t ∷ terms) zero variable d e l s = eqb-false t.0 variable e s
at_other (t ∷ terms) (suc place) variable d e l s = at_other terms place variable d e (omega (arith, l)) s

-- the variable is there
pub term_same : (term : ℕ × ℤ) (terms all : List (ℕ × ℤ)) (sum : ℤ) (place : ℕ) (d : ℕ × ℤ)
    → is_term_of term.0 (slice_get terms place) ≡ true → IsSplit term.0 terms place → sum ≡ term.1 +ℤ (get_or terms place d).1
    → all ≡ (take place terms ++ unless_zero term.0 sum []) ++ drop (place + 1) terms → all ≡ with_term term terms
term_same term terms all sum place d e split sum_is all_is = same_here term terms all sum place d (at_within terms place term.0 e)
    (at_same terms place term.0 d e) split sum_is all_is

-- it isn't
pub term_new : (term : ℕ × ℤ) (terms all : List (ℕ × ℤ)) (place : ℕ)
    → ((d : ℕ × ℤ) → place < length terms → term.0 ≤ (get_or terms place d).0) → is_term_of term.0 (slice_get terms place) ≡ false
    → IsSplit term.0 terms place → all ≡ (take place terms ++ unless_zero term.0 term.1 []) ++ drop place terms
    → all ≡ with_term term terms
term_new term terms all place low e split all_is = new_here term terms all place low (λ d l s. at_other terms place term.0 d e l s)
    split all_is

pub same_ok : {E : Type 0} (term : ℕ × ℤ) (terms : List (ℕ × ℤ)) (sum : ℤ) (place : ℕ) (d : ℕ × ℤ) (r : Result (List (ℕ × ℤ)) E)
    → is_term_of term.0 (slice_get terms place) ≡ true → IsSplit term.0 terms place → sum ≡ term.1 +ℤ (get_or terms place d).1
    → IfOk r (λ (all : List (ℕ × ℤ)). all ≡ (take place terms ++ unless_zero term.0 sum []) ++ drop (place + 1) terms)
    → IfOk r (λ (all : List (ℕ × ℤ)). all ≡ with_term term terms)
same_ok term terms sum place d (Ok all) e split sum_is all_is = term_same term terms all sum place d e split sum_is all_is
same_ok term terms sum place d (Err e') e split sum_is all_is = all_is

pub new_ok : {E : Type 0} (term : ℕ × ℤ) (terms : List (ℕ × ℤ)) (place : ℕ) (r : Result (List (ℕ × ℤ)) E)
    → ((d : ℕ × ℤ) → place < length terms → term.0 ≤ (get_or terms place d).0) → is_term_of term.0 (slice_get terms place) ≡ false
    → IsSplit term.0 terms place
    → IfOk r (λ (all : List (ℕ × ℤ)). all ≡ (take place terms ++ unless_zero term.0 term.1 []) ++ drop place terms)
    → IfOk r (λ (all : List (ℕ × ℤ)). all ≡ with_term term terms)
new_ok term terms place (Ok all) low e split all_is = term_new term terms all place low e split all_is
new_ok term terms place (Err e') low e split all_is = all_is

-- ---- sizes

size_or : (terms : List (ℕ × ℤ)) (place : ℕ) (d : ℕ × ℤ) → place < length terms → unsigned_abs (get_or terms place d).1 ≤ total_size terms
size_or [] place d l = absurd (omega (arith, l))
size_or (t ∷ terms) zero d l = omega arith
size_or (t ∷ terms) (suc place) d l = let k = size_or terms place d (omega (arith, l)) in omega (arith, k)

pub same_fits : (term : ℕ × ℤ) (terms : List (ℕ × ℤ)) (place : ℕ) (d : ℕ × ℤ) → place < length terms
    → unsigned_abs term.1 + total_size terms ≤ 2 ^ 62 → unsigned_abs term.1 + unsigned_abs (get_or terms place d).1 ≤ 2 ^ 62
same_fits term terms place d l fits = let k = size_or terms place d l in omega (arith, k, fits)

pub size_at : (terms : List (ℕ × ℤ)) (place : ℕ) (first : ℕ × ℤ) → place < length terms → first ≡ get_or terms place first
    → unsigned_abs first.1 ≤ total_size terms
size_at [] place first l is = absurd (omega (arith, l))
size_at (t ∷ terms) zero first l is = let s = ap (λ (f : ℕ × ℤ). unsigned_abs f.1) is in omega (arith, s)
size_at (t ∷ terms) (suc place) first l is = let k = size_at terms place first (omega (arith, l)) is in omega (arith, k)

total_unless : (name : ℕ) (number : ℤ) (rest : List (ℕ × ℤ)) → total_size (unless_zero name number rest) ≤ unsigned_abs number +
    total_size rest
total_unless name number rest = at (int_eq number (pos 0))
  where
    at : (b : Bool) → total_size (cond b rest ((name, number) ∷ rest)) ≤ unsigned_abs number + total_size rest
    at true = omega arith
    at false = omega arith

pub total_with : (term : ℕ × ℤ) (terms : List (ℕ × ℤ)) → total_size (with_term term terms) ≤ unsigned_abs term.1 + total_size terms
total_with term [] = total_unless term.0 term.1 []
total_with term (first ∷ rest) = at (eqb term.0 first.0) (nat_lt term.0 first.0) (total_with term rest)
  where
    at : (same lower : Bool) → total_size (with_term term rest) ≤ unsigned_abs term.1 + total_size rest
        → total_size (cond same (unless_zero term.0 (term.1 +ℤ first.1) rest)
        (cond lower (unless_zero term.0 term.1 (first ∷ rest)) (first ∷ with_term term rest))) ≤ unsigned_abs term.1 +
        (unsigned_abs first.1 + total_size rest)
    at true lower k = let l = total_unless term.0 (term.1 +ℤ first.1) rest in let m = size_of_sum term.1 first.1 in omega (arith, l, m)
    at false true k = total_unless term.0 term.1 (first ∷ rest)
    at false false k = omega (arith, k)

-- ---- terms of links

-- what is collected of the last terms
pub record AreCollected (first : ℕ) (state : AbstractState) (next : ℕ) (child : AbstractState) (terms : List (Side × ℕ × ℤ))
    (sum : List (ℕ × ℤ)) : Type 0 where
  pub made : sum ≡ collected (map (variable_by first state next child) terms)
  pub small : total_size sum ≤ size_of_terms terms

pub none_collected : (first : ℕ) (state : AbstractState) (next : ℕ) (child : AbstractState) (terms : List (Side × ℕ × ℤ)) (left : ℕ)
    → length terms ≤ left → AreCollected first state next child (drop left terms) []
none_collected first state next child terms left l = subst (λ (t : List (Side × ℕ × ℤ)). AreCollected first state next child t [])
    (sym (drop_of_length-le terms l)) (record { made = refl; small = omega arith })

before_last : (n : ℕ) → 0 < n → suc (n - 1) ≡ n
before_last n l = omega (arith, l)

last_first : (terms : List (Side × ℕ × ℤ)) (left : ℕ) (d : Side × ℕ × ℤ) → 0 < left → left ≤ length terms
    → drop (left - 1) terms ≡ get_or terms (left - 1) d ∷ drop left terms
last_first terms left d more l = drop-cons terms (left - 1) d (omega (arith, more, l))
    ∙ ap (λ (n : ℕ). get_or terms (left - 1) d ∷ drop n terms) (before_last left more)

pub one_collected : (first : ℕ) (state : AbstractState) (next : ℕ) (child : AbstractState) (terms : List (Side × ℕ × ℤ)) (left : ℕ)
    (d : Side × ℕ × ℤ) (pair : ℕ × ℤ) (sum more : List (ℕ × ℤ)) → 0 < left → left ≤ length terms
    → pair ≡ variable_by first state next child (get_or terms (left - 1) d) → more ≡ with_term pair sum
    → AreCollected first state next child (drop left terms) sum → AreCollected first state next child (drop (left - 1) terms) more
one_collected first state next child terms left d pair sum more low l pair_is made so =
    let w = total_with pair sum in
    let k = so.small in
    let size = ap (λ (m : List (ℕ × ℤ)). total_size m) made in
    let same = ap (λ (p : ℕ × ℤ). unsigned_abs p.1) pair_is in
    subst (λ (t : List (Side × ℕ × ℤ)). AreCollected first state next child t more) (sym (last_first terms left d low l)) (record {
      made = made ∙ (ap (λ (p : ℕ × ℤ). with_term p sum) pair_is
          ∙ ap (with_term (variable_by first state next child (get_or terms (left - 1) d))) so.made);
      small = omega (arith, w, k, size, same);
    })

drop_small : (terms : List (Side × ℕ × ℤ)) (n : ℕ) → size_of_terms (drop n terms) ≤ size_of_terms terms
drop_small [] zero = omega arith
drop_small [] (suc n) = omega arith
drop_small (t ∷ terms) zero = omega arith
drop_small (t ∷ terms) (suc n) = let k = drop_small terms n in omega (arith, k)

pub collected_fits : (first : ℕ) (state : AbstractState) (next : ℕ) (child : AbstractState) (terms : List (Side × ℕ × ℤ)) (left : ℕ)
    (d : Side × ℕ × ℤ) (pair : ℕ × ℤ) (sum : List (ℕ × ℤ)) → 0 < left → left ≤ length terms → size_of_terms terms ≤ 2 ^ 62
    → pair ≡ variable_by first state next child (get_or terms (left - 1) d) → AreCollected first state next child (drop left terms)
    sum → unsigned_abs pair.1 + total_size sum ≤ 2 ^ 62
collected_fits first state next child terms left d pair sum low l small pair_is so =
    let k = so.small in
    let m = drop_small terms (left - 1) in
    let size = ap (λ (t : List (Side × ℕ × ℤ)). size_of_terms t) (last_first terms left d low l) in
    let same = ap (λ (p : ℕ × ℤ). unsigned_abs p.1) pair_is in
    omega (arith, k, m, size, same, small)
