-- What a test for a target means.
use Rattle.std.proofs.Common.{◌≡◌, ℕ, zero, suc, ◌≤◌, ◌<◌, Bool, true, false, cond, eqb, List, [], ◌∷◌, ◌++◌, ℤ, pos, ◌+ℤ◌, ◌*ℤ◌}
use Rattle.std.proofs.Common.{◌≤ℤ◌, Option, Some, None, subst, arith, refl, ◌∙◌, sym}
use Rattle.std.specs.Prelude.{slice_get, ◌&&◌, int_le, nat_lt}
use Rattle.lin_core.specs.declared.faults.LinFault.{LinFault}
use Rattle.std.proofs.lemmas.Int.{ints}
use Rattle.std.proofs.lemmas.Bool.{eqb-true}
use Rattle.std.proofs.lemmas.Bool.Decides.{nat_tests}
use Rattle.std.proofs.lemmas.Option.{get_or_from_slice_get, slice_get_within}
use Rattle.lin_core.specs.declared.rows.Target.{Target}
use Rattle.lin_core.specs.Combination.{number_of, summed_coefficient, summed_constant, first_fault}
use Rattle.lin_core.specs.Rows.{Row, coefficient_of, RiseFrom, Rise, AllRise, value_of_target}
use Rattle.lin_core.specs.Weights.{rows_under}
use Rattle.lin_core.proofs.Admitted.{all_allowed}
use Rattle.lin_core.proofs.Matching.{shown_target_holds}
use Rattle.lin_core.proofs.Signs.{mul-zero_ℤ}
use Rattle.lin_core.proofs.Weighs.{rise_under}
use Rattle.descent.specs.declared.faults.DescentFault.{DescentFault}
use Rattle.descent.specs.declared.proof.CutForm.{CutForm}
use Rattle.descent.specs.declared.rules.PathRule.{PathRule}
use Rattle.descent.specs.declared.rules.SlotForm.{SlotForm}
use Rattle.descent.specs.Conditions.{AreSlots, IsSlot, IsRule}
use Rattle.descent.specs.Rankings.{Ranking, is_slot_of, slot_at, scaled, terms_of, entry_terms, line_of, ints_of, sizes_of}
use Rattle.descent.specs.Rankings.{agree_below, shows_target, need_fault, need}
use Rattle.descent.specs.Valuations.{Valuation, IsWeighing, Meets, numbers_under}

-- the slot of an id is one of the slots
slot_fits_cases : (here : Bool) (end : ℕ) (first slot : SlotForm) (found : Option SlotForm) → IsSlot end first
    → (found ≡ Some slot → IsSlot end slot) → cond here (Some first) found ≡ Some slot → IsSlot end slot
slot_fits_cases true end first slot found fit more e = subst (λ (s : SlotForm). IsSlot end s) (cc) fit
slot_fits_cases false end first slot found fit more e = more e

pub slot_fits : (end : ℕ) (slots : List SlotForm) (size : Bool) (id : ℕ) (slot : SlotForm) → AreSlots end slots
    → slot_at slots size id ≡ Some slot → IsSlot end slot
slot_fits end [] size id slot fit e = absurd (cc)
slot_fits end (first ∷ rest) size id slot fit e = slot_fits_cases (is_slot_of size id first) end first slot (slot_at rest size id)
    (fit 0 first (omega arith)) (λ h. slot_fits end rest size id slot (λ i d w. fit (suc i) d (omega arith)) h) e

-- all variables are below `end`
abbrev pub Under : ℕ → List (ℕ × ℤ) → Type 0
Under end [] = Unit {0}
Under end (term ∷ rest) = (term.0 < end) × Under end rest

rise_is_under : (low end : ℕ) (terms : List (ℕ × ℤ)) → RiseFrom low end terms → Under end terms
rise_is_under low end [] h = tt
rise_is_under low end (term ∷ rest) h = (h.1, rise_is_under (suc term.0) end rest h.2)

pub under_both : (end : ℕ) (a b : List (ℕ × ℤ)) → Under end a → Under end b → Under end (a ++ b)
under_both end [] b h k = k
under_both end (term ∷ rest) b h k = (h.0, under_both end rest b h.1 k)

pub under_scaled : (end : ℕ) (by : ℤ) (terms : List (ℕ × ℤ)) → Under end terms → Under end (scaled by terms)
under_scaled end by [] h = tt
under_scaled end by (term ∷ rest) h = (h.0, under_scaled end by rest h.1)

under_found : (end : ℕ) (found : Option SlotForm) → ((slot : SlotForm) → found ≡ Some slot → IsSlot end slot) → Under end (terms_of found)
under_found end None fit = tt
under_found end (Some slot) fit = rise_is_under 0 end slot.terms (fit slot refl).rise

under_entries : (end : ℕ) (slots : List SlotForm) (size : Bool) (entries : List (ℕ × ℤ)) → AreSlots end slots
    → Under end (entry_terms slots size entries)
under_entries end slots size [] fit = tt
under_entries end slots size (entry ∷ rest) fit = under_both end (scaled entry.1 (terms_of (slot_at slots size entry.0)))
    (entry_terms slots size rest)
    (under_scaled end entry.1 (terms_of (slot_at slots size entry.0))
    (under_found end (slot_at slots size entry.0) (λ slot e. slot_fits end slots size entry.0 slot fit e)))
    (under_entries end slots size rest fit)

pub under_line : (end : ℕ) (ranking : Ranking) (form : Option CutForm) (slots : List SlotForm) → AreSlots end slots
    → Under end (line_of ranking form slots).terms
under_line end ranking form slots fit = under_both end (entry_terms slots false (ints_of form))
    (entry_terms slots true (sizes_of ranking.sizes form)) (under_entries end slots false (ints_of form) fit)
    (under_entries end slots true (sizes_of ranking.sizes form) fit)

not_here : (here : Bool) (y x end : ℕ) (k rest : ℤ) → eqb y x ≡ here → y < end → end ≤ x → rest ≡ pos 0
    → cond here k (pos 0) +ℤ rest ≡ pos 0
not_here true y x end k rest e low high h = absurd (let s = eqb-true y x e in omega arith)
not_here false y x end k rest e low high h = omega (arith, ints)

-- a variable past the end has the coefficient 0
coefficient_past : (end x : ℕ) (terms : List (ℕ × ℤ)) → Under end terms → end ≤ x → coefficient_of x terms ≡ pos 0
coefficient_past end x [] h past = refl
coefficient_past end x (term ∷ rest) h past = not_here (eqb term.0 x) term.0 x end term.1 (coefficient_of x rest) refl h.0 past
    (coefficient_past end x rest h.1 past)

found_past : (end x : ℕ) (rows : List Row) (index : ℕ) (found : Option Row) → slice_get rows index ≡ found → AllRise end rows
    → end ≤ x → number_of (λ row. coefficient_of x row.terms) found ≡ pos 0
found_past end x rows index None e rise past = refl
found_past end x rows index (Some row) e rise past =
    let is : Rise end row.terms = subst (λ (r : Row). Rise end r.terms) (get_or_from_slice_get rows index row row e)
    (rise index row (slice_get_within rows index row e)) in
    coefficient_past end x row.terms (rise_is_under 0 end row.terms is) past

no_part : (by k rest : ℤ) → k ≡ pos 0 → rest ≡ pos 0 → by *ℤ k +ℤ rest ≡ pos 0
no_part by k rest e h = rw (e, h) (let z = mul-zero_ℤ by in omega (arith, ints))

summed_past : (end x : ℕ) (rows : List Row) (multipliers : List (ℕ × ℤ)) → AllRise end rows → end ≤ x
    → summed_coefficient rows multipliers x ≡ pos 0
summed_past end x rows [] rise past = refl
summed_past end x rows (entry ∷ rest) rise past = no_part entry.1 _ _
    (found_past end x rows entry.0 (slice_get rows entry.0) refl rise past) (summed_past end x rows rest rise past)

both_true : (a b : Bool) → (a && b) ≡ true → (a ≡ true) × (b ≡ true)
both_true true b e = (refl, e)
both_true false b e = absurd (cc)

both_are : (a b : Bool) → a ≡ true → b ≡ true → (a && b) ≡ true
both_are true b e h = h
both_are false b e h = absurd (cc)

le_of : (a b : ℤ) (t : Bool) → int_le a b ≡ t → t ≡ true → a ≤ℤ b
le_of a b true e h = omega (arith, ints)
le_of a b false e h = absurd (cc)

le_is : (a b : ℤ) (t : Bool) → int_le a b ≡ t → a ≤ℤ b → t ≡ true
le_is a b true e h = refl
le_is a b false e h = absurd (omega (arith, ints))

same_at : (a b : ℤ) → (int_le a b && int_le b a) ≡ true → a ≡ b
same_at a b e =
    let h = both_true (int_le a b) (int_le b a) e in
    let low = le_of a b (int_le a b) refl h.0 in
    let high = le_of b a (int_le b a) refl h.1 in
    omega (arith, ints)

at_cases : (n : ℕ) (f g : ℕ → ℤ) (x : ℕ) (here : Bool) → eqb x n ≡ here → f n ≡ g n → (x < n → f x ≡ g x) → x < suc n → f x ≡ g x
at_cases n f g x true e same more low = subst (λ (y : ℕ). f y ≡ g y) (sym (eqb-true x n e)) same
at_cases n f g x false e same more low = more (grind (arith, nat_tests))

pub agree_at : (n : ℕ) (f g : ℕ → ℤ) (x : ℕ) → agree_below n f g ≡ true → x < n → f x ≡ g x
agree_at zero f g x h low = absurd (omega arith)
agree_at (suc n) f g x h low =
    let parts = both_true (int_le (f n) (g n) && int_le (g n) (f n)) (agree_below n f g) h in
    at_cases n f g x (eqb x n) refl (same_at (f n) (g n) parts.0) (agree_at n f g x parts.1) low

is_same : (a b : ℤ) → a ≡ b → (int_le a b && int_le b a) ≡ true
is_same a b e = both_are (int_le a b) (int_le b a) (le_is a b (int_le a b) refl (omega (arith, ints)))
    (le_is b a (int_le b a) refl (omega (arith, ints)))

pub agree_from : (n : ℕ) (f g : ℕ → ℤ) → ((x : ℕ) → f x ≡ g x) → agree_below n f g ≡ true
agree_from zero f g h = refl
agree_from (suc n) f g h = both_are (int_le (f n) (g n) && int_le (g n) (f n)) (agree_below n f g) (is_same (f n) (g n) (h n))
    (agree_from n f g h)

-- a target's coefficients and its constant are as they must be
pub record IsMet (rows : List Row) (target : Target) (multipliers : List (ℕ × ℤ)) : Type 0 where
  pub coefficients : (x : ℕ) → summed_coefficient rows multipliers x ≡ coefficient_of x target.terms
  pub constant : summed_constant rows multipliers ≤ℤ target.constant

met_cases : (vars : ℕ) (rows : List Row) (target : Target) (multipliers : List (ℕ × ℤ)) (x : ℕ) (low : Bool) → nat_lt x vars ≡ low
    → AllRise vars rows → Under vars target.terms
    → agree_below vars (summed_coefficient rows multipliers) (λ (y : ℕ). coefficient_of y target.terms) ≡ true
    → summed_coefficient rows multipliers x ≡ coefficient_of x target.terms
met_cases vars rows target multipliers x true e rise under h = agree_at vars (summed_coefficient rows multipliers)
    (λ (y : ℕ). coefficient_of y target.terms) x h (grind (arith, nat_tests))
met_cases vars rows target multipliers x false e rise under h =
    let past : vars ≤ x = grind (arith, nat_tests) in
    summed_past vars x rows multipliers rise past ∙ sym (coefficient_past vars x target.terms under past)

pub met_of : (vars : ℕ) (rows : List Row) (target : Target) (multipliers : List (ℕ × ℤ)) → AllRise vars rows
    → Under vars target.terms → shows_target vars rows target multipliers ≡ true → IsMet rows target multipliers
met_of vars rows target multipliers rise under h =
    let parts = both_true (agree_below vars (summed_coefficient rows multipliers) (λ (y : ℕ). coefficient_of y target.terms))
    (int_le (summed_constant rows multipliers) target.constant) h in
    record {
      coefficients = λ x. met_cases vars rows target multipliers x (nat_lt x vars) refl rise under parts.0;
      constant = le_of (summed_constant rows multipliers) target.constant
          (int_le (summed_constant rows multipliers) target.constant) refl parts.1;
    }

pub met_is : (vars : ℕ) (rows : List Row) (target : Target) (multipliers : List (ℕ × ℤ)) → IsMet rows target multipliers
    → shows_target vars rows target multipliers ≡ true
met_is vars rows target multipliers h = both_are
    (agree_below vars (summed_coefficient rows multipliers) (λ (y : ℕ). coefficient_of y target.terms))
    (int_le (summed_constant rows multipliers) target.constant)
    (agree_from vars (summed_coefficient rows multipliers) (λ (y : ℕ). coefficient_of y target.terms) h.coefficients)
    (le_is (summed_constant rows multipliers) target.constant (int_le (summed_constant rows multipliers) target.constant) refl h.constant)

-- nothing is missing: the multipliers have no fault, and the target is shown
need_parts : (missing : DescentFault) (shown : Bool) (fault : Option LinFault) → need_fault missing shown fault ≡ None
    → (shown ≡ true) × (fault ≡ None)
need_parts missing shown (Some fault) e = absurd (cc)
need_parts missing true None e = (refl, refl)
need_parts missing false None e = absurd (cc)

-- so the target is at least 0 wherever the rule's rows hold
pub need_holds : (missing : DescentFault) (weigh : ℕ → ℤ) (rule : PathRule) (target : Target) (multipliers : List (ℕ × ℤ))
    (valuation : Valuation) → IsRule rule → IsWeighing weigh → Under rule.vars target.terms
    → need missing weigh rule target multipliers ≡ None → Meets rule valuation
    → pos 0 ≤ℤ value_of_target (numbers_under weigh valuation) target
need_holds missing weigh rule target multipliers valuation fit weighs under e meets =
    let rows = rows_under weigh rule.rows in
    let parts = need_parts missing (shows_target rule.vars rows target multipliers) (first_fault rows multipliers) e in
    let rise = rise_under weigh rule.vars rule.rows fit.rows in
    let met = met_of rule.vars rows target multipliers rise under parts.0 in
    shown_target_holds (numbers_under weigh valuation) rule.vars rows target multipliers rise
    (record { allowed = all_allowed rows 0 multipliers parts.1; coefficients = met.coefficients; constant = met.constant })
    (meets weigh weighs)
