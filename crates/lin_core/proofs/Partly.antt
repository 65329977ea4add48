-- A combination that is made entry by entry.
use Rattle.std.proofs.Common.{◌≡◌, ℕ, zero, suc, ◌+◌, ◌*◌, ◌≤◌, ◌<◌, ◌^◌, List, ◌∷◌, length, get_or, drop, replicate, ℤ, pos, ◌+ℤ◌}
use Rattle.std.proofs.Common.{◌*ℤ◌, Some, None, subst, ap, arith, refl, ◌∙◌, sym, add-one}
use Rattle.std.specs.Prelude.{slice_get}
use Rattle.std.proofs.lemmas.Int.{ints}
use Rattle.std.proofs.lemmas.List.{at_drop_more, at_drop_all, length-replicate}
use Rattle.list_views.proofs.Orders.{zero_plus}
use Rattle.list_views.proofs.Marks.{zero_at}
use Rattle.lin_core.specs.Combination.{number_of, summed_coefficient, summed_constant, first_fault_from, IsSumOf}
use Rattle.lin_core.specs.Rows.{Row, coefficient_of}
use Rattle.lin_core.specs.Steps.{AddsMultiple}
use Rattle.lin_core.specs.Sums.{Sum, zero_sum, variables, coefficient_in, IsWithin}
use Rattle.lin_core.proofs.Admitted.{IsAdmitted, admitted_first}

-- `rest` is left of the entries `all`, from entry `i` on: it has no fault, and the sum so far and what is left are the
-- whole; no number is above i * 2^94 in size
pub record IsPartly (rows : List Row) (all rest : List (ℕ × ℤ)) (i end : ℕ) (now : Sum) : Type 0 where
  pub faultless : first_fault_from rows i rest ≡ None
  pub count : variables now ≡ end
  pub coefficients : (x : ℕ) → coefficient_in now x +ℤ summed_coefficient rows rest x ≡ summed_coefficient rows all x
  pub constant : now.constant +ℤ summed_constant rows rest ≡ summed_constant rows all
  pub within : IsWithin (i * 2 ^ 94) now

pub partly_first : (rows : List Row) (all : List (ℕ × ℤ)) (end : ℕ) (now : Sum) → first_fault_from rows 0 all ≡ None
    → now ≡ zero_sum end → IsPartly rows all all 0 end now
partly_first rows all end now none e = rw e (record {
  faultless = none;
  count = length-replicate end (pos 0);
  coefficients = λ x. ap (λ (z : ℤ). z +ℤ summed_coefficient rows all x) (zero_at end x) ∙ zero_plus (summed_coefficient rows all x);
  constant = zero_plus (summed_constant rows all);
  within = record { coefficients = λ x. rw (zero_at end x) (omega arith); constant = omega arith };
})

one_entry : (next now by k number rest whole : ℤ) → number ≡ k → next ≡ now +ℤ by *ℤ k → now +ℤ (by *ℤ number +ℤ rest) ≡ whole
    → next +ℤ rest ≡ whole
one_entry next now by k number rest whole is e h =
    let m = rw is at h in
    omega (arith, ints)

partly_step : (rows : List Row) (all rest : List (ℕ × ℤ)) (entry : ℕ × ℤ) (row : Row) (i end : ℕ) (now next : Sum)
    → slice_get rows entry.0 ≡ Some row → IsPartly rows all (entry ∷ rest) i end now
    → AddsMultiple row.terms row.constant entry.1 now next → IsPartly rows all rest (suc i) end next
partly_step rows all rest entry row i end now next found h adds =
    let at : (f : Row → ℤ) → number_of f (slice_get rows entry.0) ≡ f row = λ f. ap (number_of f) found in
    record {
      faultless = (admitted_first rows i entry rest h.faultless).1;
      count = adds.count ∙ h.count;
      coefficients = λ x. one_entry (coefficient_in next x) (coefficient_in now x) entry.1 (coefficient_of x row.terms) _
          (summed_coefficient rows rest x) (summed_coefficient rows all x) (at (λ r. coefficient_of x r.terms))
          (adds.coefficients x) (h.coefficients x);
      constant = one_entry next.constant now.constant entry.1 row.constant _ (summed_constant rows rest) (summed_constant rows all)
          (at (λ r. r.constant)) adds.constant h.constant;
      within = record {
        coefficients = λ x. omega (arith, adds.growth x, h.within.coefficients x);
        constant = omega (arith, adds.constant_growth, h.within.constant);
      };
    }

-- the entry that is next names a row, and its multiplier is small
pub partly_entry : (rows : List Row) (all : List (ℕ × ℤ)) (i end : ℕ) (now : Sum) → i < length all
    → IsPartly rows all (drop i all) i end now → IsAdmitted (get_or all i (0, pos 0)).1 (slice_get rows (get_or all i (0, pos 0)).0)
partly_entry rows all i end now in' h =
    let split = at_drop_more (λ (xs : List (ℕ × ℤ)). xs) all i (0, pos 0) in' in
    let m = subst (λ (xs : List (ℕ × ℤ)). IsPartly rows all xs i end now) split h in
    (admitted_first rows i (get_or all i (0, pos 0)) (drop (i + 1) all) m.faultless).0

pub partly_more : (rows : List Row) (all : List (ℕ × ℤ)) (row : Row) (i end : ℕ) (now next : Sum) → i < length all
    → IsPartly rows all (drop i all) i end now → slice_get rows (get_or all i (0, pos 0)).0 ≡ Some row
    → AddsMultiple row.terms row.constant (get_or all i (0, pos 0)).1 now next → IsPartly rows all (drop (i + 1) all) (i + 1) end next
partly_more rows all row i end now next in' h found adds =
    let split = at_drop_more (λ (xs : List (ℕ × ℤ)). xs) all i (0, pos 0) in' in
    let m = subst (λ (xs : List (ℕ × ℤ)). IsPartly rows all xs i end now) split h in
    let one : i + 1 ≡ suc i = add-one i in
    subst (λ (n : ℕ). IsPartly rows all (drop (i + 1) all) n end next) (sym one)
    (partly_step rows all (drop (i + 1) all) (get_or all i (0, pos 0)) row i end now next found m adds)

-- what the step asks of the room in 128 bits
pub within_more : (low high : ℕ) (now : Sum) → low ≤ high → IsWithin low now → IsWithin high now
within_more low high now le h = record {
  coefficients = λ x. omega (arith, h.coefficients x);
  constant = omega (arith, h.constant);
}

plus_zero : (z w : ℤ) → z +ℤ pos 0 ≡ w → z ≡ w
plus_zero z w h = omega (arith, ints)

pub partly_last : (rows : List Row) (all : List (ℕ × ℤ)) (i end : ℕ) (now : Sum) → length all ≤ i
    → IsPartly rows all (drop i all) i end now → IsSumOf end rows all now
partly_last rows all i end now past h =
    let none = at_drop_all (λ (xs : List (ℕ × ℤ)). xs) all i past in
    let m = subst (λ (xs : List (ℕ × ℤ)). IsPartly rows all xs i end now) none h in
    record {
      count = m.count;
      coefficients = λ x. plus_zero (coefficient_in now x) _ (m.coefficients x);
      constant = plus_zero now.constant _ m.constant;
    }

-- no number is large at the end, nor in a sum with nothing in it
pub partly_within : (rows : List Row) (all rest : List (ℕ × ℤ)) (i end : ℕ) (now : Sum) → i ≤ 65536
    → IsPartly rows all rest i end now → IsWithin (2 ^ 110) now
partly_within rows all rest i end now few h = within_more (i * 2 ^ 94) (2 ^ 110) now (omega arith) h.within

pub zero_within : (end : ℕ) (now : Sum) → now ≡ zero_sum end → IsWithin (2 ^ 110) now
zero_within end now e = rw e (record { coefficients = λ x. rw (zero_at end x) (omega arith); constant = omega arith })
