-- A line that is added entry by entry.
use Rattle.std.proofs.Common.{◌≡◌, ℕ, suc, ◌+◌, ◌*◌, ◌≤◌, ◌<◌, ◌^◌, Bool, true, false, cond, List, [], ◌∷◌, ◌++◌, length, get_or}
use Rattle.std.proofs.Common.{drop, ℤ, pos, ◌+ℤ◌, ◌-ℤ◌, ◌≤ℤ◌, ◌*ℤ◌, eqb, Option, Some, None, subst, ap, arith, refl, ◌∙◌, sym}
use Rattle.std.proofs.Common.{add-one, negsuc}
use Rattle.std.specs.Prelude.{unsigned_abs, IsTrue, ◌↔◌}
use Rattle.std.proofs.lemmas.Int.{ints}
use Rattle.std.proofs.lemmas.List.{at_drop_more, at_drop_all}
use Rattle.lin_core.proofs.Midway.{no_rest}
use Rattle.lin_core.proofs.Coefficients.{coefficient_both, scaled_if, rise_wider}
use Rattle.lin_core.specs.Rows.{coefficient_of, RiseFrom, Row, AllRise}
use Rattle.lin_core.specs.Steps.{AddsMultiple}
use Rattle.lin_core.specs.Sums.{Sum, variables, coefficient_in, IsWithin, Leaves}
use Rattle.list_views.proofs.Ring.{times_plus, times_assoc}
use Rattle.lin_core.proofs.Signs.{mul-zero_ℤ}
use Rattle.lin_core.specs.declared.rows.Target.{Target}
use Rattle.lin_core.specs.declared.rows.WRow.{WRow}
use Rattle.lin_core.specs.Combination.{first_fault, IsSumOf, Shows}
use Rattle.lin_core.specs.Weights.{AreRows, rows_under}
use Rattle.lin_core.proofs.Weighs.{rise_under}
use Rattle.descent.specs.declared.faults.DescentFault.{DescentFault}
use Rattle.descent.specs.declared.proof.CutForm.{CutForm}
use Rattle.descent.specs.declared.rules.PathRule.{PathRule}
use Rattle.descent.specs.declared.rules.SlotForm.{SlotForm}
use Rattle.descent.specs.lemmas.Shown.{IsMet, met_of, met_is, Under}
use Rattle.descent.specs.Conditions.{AreForms, AreMultiples, AreSlots, IsForm, IsRule}
use Rattle.descent.specs.inner.Lines.{AddsLine}
use Rattle.descent.specs.Rankings.{form_at, ints_of, sizes_of, shows_target, need, need_fault, slot_at, scaled, terms_of}
use Rattle.descent.specs.Rankings.{constant_of, entry_terms, entry_constant}

pub coefficient_scaled : (x : ℕ) (by : ℤ) (terms : List (ℕ × ℤ)) → coefficient_of x (scaled by terms) ≡ by *ℤ coefficient_of x terms
coefficient_scaled x by [] = sym (mul-zero_ℤ by)
coefficient_scaled x by (term ∷ rest) = scaled_if _ by term.1 (coefficient_of x rest) _ (coefficient_scaled x by rest)

-- `rest` is left of the multiples `all`, from entry `i` on
pub record IsAdding (weigh : ℕ → ℤ) (slots : List SlotForm) (size : Bool) (sign : ℤ) (all rest : List (ℕ × ℤ)) (i : ℕ)
    (old now : Sum) : Type 0 where
  pub count : variables now ≡ variables old
  pub coefficients : (x : ℕ) → coefficient_in now x +ℤ sign *ℤ coefficient_of x (entry_terms slots size rest) ≡ coefficient_in old x
      +ℤ sign *ℤ coefficient_of x (entry_terms slots size all)
  pub constant : now.constant +ℤ sign *ℤ entry_constant weigh slots size rest ≡ old.constant +ℤ sign *ℤ entry_constant weigh slots size all
  pub growth : (x : ℕ) → unsigned_abs (coefficient_in now x) ≤ unsigned_abs (coefficient_in old x) + i * 2 ^ 94
  pub constant_growth : unsigned_abs now.constant ≤ unsigned_abs old.constant + i * 2 ^ 94

one_entry : (next now sign by k rest whole part all : ℤ) → next ≡ now +ℤ (sign *ℤ by) *ℤ k → part ≡ by *ℤ k → whole ≡ part +ℤ rest
    → now +ℤ sign *ℤ whole ≡ all → next +ℤ sign *ℤ rest ≡ all
one_entry next now sign by k rest whole part all e p w h =
    let d = times_plus sign part rest in
    let a = times_assoc sign by k in
    let m = rw w at h in
    let n = rw p at (rw d at m) in
    rw e (omega (arith, ints))

no_entry : (now sign rest whole part all : ℤ) → part ≡ pos 0 → whole ≡ part +ℤ rest → now +ℤ sign *ℤ whole ≡ all
    → now +ℤ sign *ℤ rest ≡ all
no_entry now sign rest whole part all p w h =
    let e : whole ≡ rest = omega (arith, ints) in
    subst (λ (z : ℤ). now +ℤ sign *ℤ z ≡ all) e h

-- the entry has a slot, and the slot is added
adding_slot : (weigh : ℕ → ℤ) (slots : List SlotForm) (size : Bool) (sign by : ℤ) (all rest : List (ℕ × ℤ)) (entry : ℕ × ℤ)
    (slot : SlotForm) (i : ℕ) (old now next : Sum) → slot_at slots size entry.0 ≡ Some slot → by ≡ sign *ℤ entry.1
    → IsAdding weigh slots size sign all (entry ∷ rest) i old now
    → AddsMultiple slot.terms (constant_of weigh (Some slot)) by now next → IsAdding weigh slots size sign all rest (suc i) old next
adding_slot weigh slots size sign by all rest entry slot i old now next found e h adds =
    let multiple : (now' next' k : ℤ) → next' ≡ now' +ℤ by *ℤ k → next' ≡ now' +ℤ (sign *ℤ entry.1) *ℤ k = λ now' next' k is. is
    ∙ ap (λ (z : ℤ). now' +ℤ z *ℤ k) e in
    record {
      count = adds.count ∙ h.count;
      coefficients = λ x. one_entry (coefficient_in next x) (coefficient_in now x) sign entry.1 (coefficient_of x slot.terms)
          (coefficient_of x (entry_terms slots size rest)) _
          (coefficient_of x (scaled entry.1 (terms_of (slot_at slots size entry.0)))) _
          (multiple (coefficient_in now x) (coefficient_in next x) (coefficient_of x slot.terms) (adds.coefficients x))
          (ap (λ (o : Option SlotForm). coefficient_of x (scaled entry.1 (terms_of o))) found
          ∙ coefficient_scaled x entry.1 slot.terms)
          (coefficient_both x (scaled entry.1 (terms_of (slot_at slots size entry.0))) (entry_terms slots size rest)) (h.coefficients x);
      constant = one_entry next.constant now.constant sign entry.1 (constant_of weigh (Some slot))
          (entry_constant weigh slots size rest) _ (entry.1 *ℤ constant_of weigh (slot_at slots size entry.0)) _
          (multiple now.constant next.constant (constant_of weigh (Some slot)) adds.constant)
          (ap (λ (o : Option SlotForm). entry.1 *ℤ constant_of weigh o) found) refl h.constant;
      growth = λ x. omega (arith, adds.growth x, h.growth x);
      constant_growth = omega (arith, adds.constant_growth, h.constant_growth);
    }

-- the entry has no slot, and nothing is added
adding_none : (weigh : ℕ → ℤ) (slots : List SlotForm) (size : Bool) (sign : ℤ) (all rest : List (ℕ × ℤ)) (entry : ℕ × ℤ) (i : ℕ)
    (old now : Sum) → slot_at slots size entry.0 ≡ None → IsAdding weigh slots size sign all (entry ∷ rest) i old now
    → IsAdding weigh slots size sign all rest (suc i) old now
adding_none weigh slots size sign all rest entry i old now found h = record {
  count = h.count;
  coefficients = λ x. no_entry (coefficient_in now x) sign (coefficient_of x (entry_terms slots size rest)) _
      (coefficient_of x (scaled entry.1 (terms_of (slot_at slots size entry.0)))) _
      (ap (λ (o : Option SlotForm). coefficient_of x (scaled entry.1 (terms_of o))) found)
      (coefficient_both x (scaled entry.1 (terms_of (slot_at slots size entry.0))) (entry_terms slots size rest)) (h.coefficients x);
  constant = no_entry now.constant sign (entry_constant weigh slots size rest) _
      (entry.1 *ℤ constant_of weigh (slot_at slots size entry.0)) _
      (ap (λ (o : Option SlotForm). entry.1 *ℤ constant_of weigh o) found ∙ mul-zero_ℤ entry.1) refl h.constant;
  growth = λ x. omega (arith, h.growth x);
  constant_growth = omega (arith, h.constant_growth);
}

pub adding_slot_more : (weigh : ℕ → ℤ) (slots : List SlotForm) (size : Bool) (sign by number : ℤ) (all : List (ℕ × ℤ))
    (slot : SlotForm) (terms : List (ℕ × ℤ)) (i : ℕ) (old now next : Sum) → i < length all
    → IsAdding weigh slots size sign all (drop i all) i old now → slot_at slots size (get_or all i (0, pos 0)).0 ≡ Some slot
    → by ≡ sign *ℤ (get_or all i (0, pos 0)).1 → terms ≡ slot.terms → number ≡ constant_of weigh (Some slot)
    → AddsMultiple terms number by now next → IsAdding weigh slots size sign all (drop (i + 1) all) (i + 1) old next
adding_slot_more weigh slots size sign by number all slot terms i old now next in' h found e t n adds =
    let split = at_drop_more (λ (xs : List (ℕ × ℤ)). xs) all i (0, pos 0) in' in
    let m = subst (λ (xs : List (ℕ × ℤ)). IsAdding weigh slots size sign all xs i old now) split h in
    let a = subst (λ (xs : List (ℕ × ℤ)). AddsMultiple xs number by now next) t adds in
    let b = subst (λ (z : ℤ). AddsMultiple slot.terms z by now next) n a in
    rw (add-one i) (subst (λ (xs : List (ℕ × ℤ)). IsAdding weigh slots size sign all xs (suc i) old next)
    (ap (λ (k : ℕ). drop k all) (add-one i))
    (adding_slot weigh slots size sign by all (drop (i + 1) all) (get_or all i (0, pos 0)) slot i old now next found e m b))

pub adding_none_more : (weigh : ℕ → ℤ) (slots : List SlotForm) (size : Bool) (sign : ℤ) (all : List (ℕ × ℤ)) (i : ℕ) (old now : Sum)
    → i < length all → IsAdding weigh slots size sign all (drop i all) i old now
    → slot_at slots size (get_or all i (0, pos 0)).0 ≡ None → IsAdding weigh slots size sign all (drop (i + 1) all) (i + 1) old now
adding_none_more weigh slots size sign all i old now in' h found =
    let split = at_drop_more (λ (xs : List (ℕ × ℤ)). xs) all i (0, pos 0) in' in
    let m = subst (λ (xs : List (ℕ × ℤ)). IsAdding weigh slots size sign all xs i old now) split h in
    rw (add-one i) (subst (λ (xs : List (ℕ × ℤ)). IsAdding weigh slots size sign all xs (suc i) old now)
    (ap (λ (k : ℕ). drop k all) (add-one i))
    (adding_none weigh slots size sign all (drop (i + 1) all) (get_or all i (0, pos 0)) i old now found m))

-- there are at most as many multiples as ids
rising_few : (low end : ℕ) (entries : List (ℕ × ℤ)) → low ≤ end → RiseFrom low end entries → low + length entries ≤ end
rising_few low end [] le h = omega arith
rising_few low end (entry ∷ rest) le h = let m = rising_few (suc entry.0) end rest (omega (arith, h.1)) h.2 in omega (arith, h.0)

pub adding_room : (weigh : ℕ → ℤ) (slots : List SlotForm) (size : Bool) (sign : ℤ) (all rest : List (ℕ × ℤ)) (i : ℕ) (old now : Sum)
    → i < length all → AreMultiples all → IsWithin (2 ^ 113) old → IsAdding weigh slots size sign all rest i old now
    → IsWithin (2 ^ 126) now
adding_room weigh slots size sign all rest i old now in' fit room h =
    let few = rising_few 0 65536 all (omega arith) fit.rise in
    record {
      coefficients = λ x. omega (arith, h.growth x, room.coefficients x);
      constant = omega (arith, h.constant_growth, room.constant);
    }

pub adding_last : (weigh : ℕ → ℤ) (slots : List SlotForm) (size : Bool) (sign : ℤ) (all : List (ℕ × ℤ)) (i : ℕ) (old now : Sum)
    → length all ≤ i → i ≤ length all → AreMultiples all → IsAdding weigh slots size sign all (drop i all) i old now
    → AddsLine (2 ^ 110) (entry_terms slots size all) (entry_constant weigh slots size all) sign old now
adding_last weigh slots size sign all i old now past in' fit h =
    let few = rising_few 0 65536 all (omega arith) fit.rise in
    let none = at_drop_all (λ (xs : List (ℕ × ℤ)). xs) all i past in
    let m = subst (λ (xs : List (ℕ × ℤ)). IsAdding weigh slots size sign all xs i old now) none h in
    record {
      count = m.count;
      coefficients = λ x. no_rest (coefficient_in now x) sign _ (m.coefficients x);
      constant = no_rest now.constant sign _ m.constant;
      growth = λ x. omega (arith, m.growth x);
      constant_growth = omega (arith, m.constant_growth);
    }

-- one line after another
both_signs : (x y z sign a b whole : ℤ) → y ≡ x +ℤ sign *ℤ a → z ≡ y +ℤ sign *ℤ b → whole ≡ a +ℤ b → z ≡ x +ℤ sign *ℤ whole
both_signs x y z sign a b whole e h w = let d = times_plus sign a b in rw w (omega (arith, ints))

pub two_lines : (room more : ℕ) (a b : List (ℕ × ℤ)) (m n sign : ℤ) (old mid new : Sum) → AddsLine room a m sign old mid
    → AddsLine more b n sign mid new → AddsLine (room + more) (a ++ b) (m +ℤ n) sign old new
two_lines room more a b m n sign old mid new h k = record {
  count = k.count ∙ h.count;
  coefficients = λ x. both_signs (coefficient_in old x) (coefficient_in mid x) (coefficient_in new x) sign (coefficient_of x a)
      (coefficient_of x b) _ (h.coefficients x) (k.coefficients x) (coefficient_both x a b);
  constant = both_signs old.constant mid.constant new.constant sign m n _ h.constant k.constant refl;
  growth = λ x. omega (arith, h.growth x, k.growth x);
  constant_growth = omega (arith, h.constant_growth, k.constant_growth);
}

-- a list of forms within their limits has such forms
form_fits_cases : (here : Bool) (first form : CutForm) (found : Option CutForm) → IsForm first → (found ≡ Some form → IsForm form)
    → cond here (Some first) found ≡ Some form → IsForm form
form_fits_cases true first form found fit more e = subst (λ (f : CutForm). IsForm f) (cc) fit
form_fits_cases false first form found fit more e = more e

form_fits : (forms : List CutForm) (cut : ℕ) (form : CutForm) → AreForms forms → form_at forms cut ≡ Some form → IsForm form
form_fits [] cut form fit e = absurd (cc)
form_fits (first ∷ rest) cut form fit e = form_fits_cases (eqb first.cut cut) first form (form_at rest cut)
    (fit 0 first (omega arith)) (λ h. form_fits rest cut form (λ i d w. fit (suc i) d (omega arith)) h) e

no_multiples : AreMultiples []
no_multiples = record { rise = tt; size = λ i d w. absurd (omega arith) }

ints_fit_cases : (found : Option CutForm) → ((form : CutForm) → found ≡ Some form → IsForm form) → AreMultiples (ints_of found)
ints_fit_cases None fit = no_multiples
ints_fit_cases (Some form) fit = (fit form refl).ints

sizes_fit_cases : (sizes : Bool) (found : Option CutForm) → ((form : CutForm) → found ≡ Some form → IsForm form)
    → AreMultiples (sizes_of sizes found)
sizes_fit_cases false found fit = no_multiples
sizes_fit_cases true None fit = no_multiples
sizes_fit_cases true (Some form) fit = (fit form refl).sizes

pub ints_fit : (forms : List CutForm) (cut : ℕ) → AreForms forms → AreMultiples (ints_of (form_at forms cut))
ints_fit forms cut fit = ints_fit_cases (form_at forms cut) (λ form e. form_fits forms cut form fit e)

pub sizes_fit : (sizes : Bool) (forms : List CutForm) (cut : ℕ) → AreForms forms → AreMultiples (sizes_of sizes (form_at forms cut))
sizes_fit sizes forms cut fit = sizes_fit_cases sizes (form_at forms cut) (λ form e. form_fits forms cut form fit e)

pub slots_wider : (end more : ℕ) (slots : List SlotForm) → end ≤ more → AreSlots end slots → AreSlots more slots
slots_wider end more slots le h = λ i d w. record
    { rise = rise_wider 0 end more (get_or slots i d).terms le (h i d w).rise; constant = (h i d w).constant; weights = (h i d w).weights }

pub rows_wider : (end more : ℕ) (rows : List WRow) → end ≤ more → AreRows end rows → AreRows more rows
rows_wider end more rows le h = λ i d w. record {
  rise = rise_wider 0 end more (get_or rows i d).terms le (h i d w).rise;
  constant =
      (h i d w).constant;
  weights = (h i d w).weights;
}

-- a sum from which start was taken away and to which end was added shows what is left of it
left_over : (s was mid now a b : ℤ) → was ≡ s → mid ≡ was +ℤ negsuc 0 *ℤ a → now ≡ mid +ℤ pos 1 *ℤ b → now ≡ (s -ℤ a) +ℤ b
left_over s was mid now a b e h k = omega (arith, ints)

zero_left : (s a b now whole : ℤ) → now ≡ (s -ℤ a) +ℤ b → whole ≡ a +ℤ negsuc 0 *ℤ b
    → (now ≡ pos 0 → s ≡ whole) × (s ≡ whole → now ≡ pos 0)
zero_left s a b now whole e w = (λ h. omega (arith, ints), λ h. omega (arith, ints))

most_left : (s a b now base base' fall : ℤ) → now ≡ (s -ℤ a) +ℤ b
    → (now ≤ℤ ((base -ℤ base') -ℤ fall) → s ≤ℤ (((base +ℤ a) -ℤ (base' +ℤ b)) -ℤ fall))
    × (s ≤ℤ (((base +ℤ a) -ℤ (base' +ℤ b)) -ℤ fall) → now ≤ℤ ((base -ℤ base') -ℤ fall))
most_left s a b now base base' fall e = (λ h. omega (arith, ints), λ h. omega (arith, ints))

pub fall_left : (room more : ℕ) (start end : List (ℕ × ℤ)) (a b base base' fall : ℤ) (old mid new : Sum)
    → AddsLine room start a (negsuc 0) old mid → AddsLine more end b (pos 1) mid new
    → (Leaves new ((base -ℤ base') -ℤ fall) ↔ Shows old
    (record { terms = start ++ scaled (negsuc 0) end; constant = ((base +ℤ a) -ℤ (base' +ℤ b)) -ℤ fall }))
fall_left room more start end a b base base' fall old mid new h k =
    let at : (x : ℕ) → coefficient_in new x ≡ (coefficient_in old x -ℤ coefficient_of x start) +ℤ coefficient_of x end = λ x.
    left_over (coefficient_in old x) (coefficient_in old x) (coefficient_in mid x) (coefficient_in new x)
    (coefficient_of x start) (coefficient_of x end) refl (h.coefficients x) (k.coefficients x) in
    let whole : (x : ℕ) → coefficient_of x (start ++ scaled (negsuc 0) end) ≡ coefficient_of x start +ℤ negsuc 0 *ℤ coefficient_of x
    end = λ x. coefficient_both x start (scaled (negsuc 0) end)
    ∙ ap (λ (z : ℤ). coefficient_of x start +ℤ z) (coefficient_scaled x (negsuc 0) end) in
    let last = left_over old.constant old.constant mid.constant new.constant a b refl h.constant k.constant in
    let zero' : (x : ℕ) → (coefficient_in new x ≡ pos 0 → coefficient_in old x ≡ coefficient_of x (start ++ scaled (negsuc 0) end))
    × (coefficient_in old x ≡ coefficient_of x (start ++ scaled (negsuc 0) end) → coefficient_in new x ≡ pos 0) = λ x. zero_left
    (coefficient_in old x) (coefficient_of x start) (coefficient_of x end) (coefficient_in new x) _ (at x) (whole x) in
    let most = most_left old.constant a b new.constant base base' fall last in (
      λ leaves. record { coefficients = λ x. (zero' x).0 (leaves.coefficients x); constant = most.0 leaves.constant },
      λ shows. record { coefficients = λ x. (zero' x).1 (shows.coefficients x); constant = most.1 shows.constant },
    )

start_zero : (s now a : ℤ) → now ≡ s +ℤ negsuc 0 *ℤ a → (now ≡ pos 0 → s ≡ a) × (s ≡ a → now ≡ pos 0)
start_zero s now a e = (λ h. omega (arith, ints), λ h. omega (arith, ints))

start_most : (s now a base : ℤ) → now ≡ s +ℤ negsuc 0 *ℤ a → (now ≤ℤ base → s ≤ℤ (base +ℤ a)) × (s ≤ℤ (base +ℤ a) → now ≤ℤ base)
start_most s now a base e = (λ h. omega (arith, ints), λ h. omega (arith, ints))

pub start_left : (room : ℕ) (start : List (ℕ × ℤ)) (a base : ℤ) (old new : Sum) → AddsLine room start a (negsuc 0) old new
    → (Leaves new base ↔ Shows old (record { terms = start; constant = base +ℤ a }))
start_left room start a base old new h =
    let zero' : (x : ℕ) → (coefficient_in new x ≡ pos 0 → coefficient_in old x ≡ coefficient_of x start)
    × (coefficient_in old x ≡ coefficient_of x start → coefficient_in new x ≡ pos 0) = λ x. start_zero (coefficient_in old x)
    (coefficient_in new x) (coefficient_of x start) (h.coefficients x) in
    let most = start_most old.constant new.constant a base h.constant in (
      λ leaves. record { coefficients = λ x. (zero' x).0 (leaves.coefficients x); constant = most.0 leaves.constant },
      λ shows. record { coefficients = λ x. (zero' x).1 (shows.coefficients x); constant = most.1 shows.constant },
    )

-- the test for a target gives what the sum tells
met_by : (end : ℕ) (rows : List Row) (target : Target) (multipliers : List (ℕ × ℤ)) (sum : Sum) → IsSumOf end rows multipliers sum
    → Shows sum target → IsMet rows target multipliers
met_by end rows target multipliers sum is shows = record {
  coefficients = λ x. sym (is.coefficients x) ∙ shows.coefficients x;
  constant = subst (λ (z : ℤ). z ≤ℤ target.constant) is.constant shows.constant;
}

by_met : (end : ℕ) (rows : List Row) (target : Target) (multipliers : List (ℕ × ℤ)) (sum : Sum) → IsSumOf end rows multipliers sum
    → IsMet rows target multipliers → Shows sum target
by_met end rows target multipliers sum is met = record {
  coefficients = λ x. is.coefficients x ∙ met.coefficients x;
  constant = subst (λ (z : ℤ). z ≤ℤ target.constant) (sym is.constant) met.constant;
}

no_test : (told : Bool) → (told ≡ true → ⊥) → false ≡ told
no_test true h = absurd (h refl)
no_test false h = refl

test_cases : (told : Bool) (vars end : ℕ) (rows : List Row) (target : Target) (multipliers : List (ℕ × ℤ)) (sum : Sum)
    → (IsTrue told ↔ Shows sum target) → IsSumOf end rows multipliers sum → AllRise vars rows → Under vars target.terms
    → told ≡ shows_target vars rows target multipliers
test_cases true vars end rows target multipliers sum h is rise under = sym
    (met_is vars rows target multipliers (met_by end rows target multipliers sum is (h.0 refl)))
test_cases false vars end rows target multipliers sum h is rise under = no_test (shows_target vars rows target multipliers)
    (λ e. absurd (cc (h.1 (by_met end rows target multipliers sum is (met_of vars rows target multipliers rise under e)))))

told_fault : (told : Bool) (missing : DescentFault) → need_fault missing told None ≡ cond told None (Some missing)
told_fault true missing = refl
told_fault false missing = refl

pub need_told : (told : Bool) (missing : DescentFault) (weigh : ℕ → ℤ) (rule : PathRule) (end : ℕ) (target : Target)
    (multipliers : List (ℕ × ℤ)) (sum : Sum) → IsRule rule → Under rule.vars target.terms → (IsTrue told ↔ Shows sum target)
    → IsSumOf end (rows_under weigh rule.rows) multipliers sum → first_fault (rows_under weigh rule.rows) multipliers ≡ None
    → need missing weigh rule target multipliers ≡ cond told None (Some missing)
need_told told missing weigh rule end target multipliers sum fit under h is none =
    let test = test_cases told rule.vars end (rows_under weigh rule.rows) target multipliers sum h is
    (rise_under weigh rule.vars rule.rows fit.rows) under in
    ap (need_fault missing (shows_target rule.vars (rows_under weigh rule.rows) target multipliers)) none
    ∙ ap (λ (b : Bool). need_fault missing b None) (sym test) ∙ told_fault told missing

-- what is told of a row that has no other fault
pub shown_done : (taken told : Bool) (found : Option DescentFault) (missing : DescentFault) → taken ≡ true
    → found ≡ cond told None (Some missing) → told ≡ true → None ≡ cond taken found (Some missing)
shown_done true true found missing t e h = sym e
shown_done true false found missing t e h = absurd (cc)
shown_done false told found missing t e h = absurd (cc)

pub missing_done : (taken told : Bool) (found : Option DescentFault) (missing : DescentFault) → taken ≡ true
    → found ≡ cond told None (Some missing) → told ≡ false → Some missing ≡ cond taken found (Some missing)
missing_done true true found missing t e h = absurd (cc)
missing_done true false found missing t e h = sym e
missing_done false told found missing t e h = refl
