-- The form of a cut at an end of a rule, and what shows its fall and its bound.
use Rattle.std.proofs.Common.{◌≡◌, ℕ, zero, suc, Bool, true, false, cond, List, [], ◌∷◌, ◌++◌, ℤ, pos, negsuc, ◌+ℤ◌, ◌-ℤ◌, ◌*ℤ◌}
use Rattle.std.proofs.Common.{◌≤ℤ◌, Option, Some, None, ap, arith, refl, ◌∙◌, sym}
use Rattle.std.specs.Prelude.{◌&&◌, int_le}
use Rattle.std.proofs.lemmas.Int.{ints}
use Rattle.std.proofs.lemmas.Bool.{and_from as both_true}
use Rattle.lin_core.proofs.Coefficients.{coefficient_both}
use Rattle.descent.proofs.Adding.{coefficient_scaled}
use Rattle.lin_core.specs.declared.faults.LinFault.{LinFault}
use Rattle.lin_core.specs.declared.rows.Target.{Target}
use Rattle.lin_core.specs.Combination.{first_fault, summed_coefficient, summed_constant}
use Rattle.lin_core.specs.Rows.{coefficient_of, value_of_terms}
use Rattle.lin_core.specs.Weights.{rows_under, weight_in}
use Rattle.descent.specs.declared.faults.DescentFault.{DescentFault}
use Rattle.descent.specs.declared.faults.DescentFault.TheVariants.{NotWeak, NotStrict, NotBounded}
use Rattle.descent.specs.declared.proof.CutForm.{CutForm}
use Rattle.descent.specs.declared.rules.PathRule.{PathRule}
use Rattle.descent.specs.declared.rules.SlotForm.{SlotForm}
use Rattle.descent.specs.Rankings.{Ranking, agree_below, bounded_fault, constant_of, entry_constant, entry_terms, form_at}
use Rattle.descent.specs.Rankings.{have_slots, is_taken, line_of, need, need_fault, weigh_of, scaled, shows_target, start_of}
use Rattle.descent.specs.Rankings.{end_of, strict_fault, takes_end, takes_start, weak_fault}
use Rattle.rank_forms.specs.declared.following.Bound.{Bound}
use Rattle.rank_forms.specs.declared.following.Followed.{Followed}
use Rattle.rank_forms.specs.Following.{IsBoundAt, IsFollowed}
use Rattle.rank_forms.specs.rule_links.Positions.{IsVariable}

-- the ranking by these forms
abbrev pub ranking_with : Bool → List (ℕ × ℤ) → List CutForm → Ranking
ranking_with size weights forms = record { forms = forms; weights = weights; sizes = size }

-- at an end of a rule the form is a constant and these terms
pub record IsLine (ranking : Ranking) (form : Option CutForm) (slots : List SlotForm) (terms : List (ℕ × ℤ)) (constant : ℤ) : Type 0 where
  pub taken : is_taken ranking form slots ≡ true
  pub coefficients : (x : ℕ) → coefficient_of x (line_of ranking form slots).terms ≡ coefficient_of x terms
  pub base : (line_of ranking form slots).constant ≡ constant

-- these multiples of ids are terms, and nothing beside
pub record AreEntries (weigh : ℕ → ℤ) (slots : List SlotForm) (size : Bool) (entries terms : List (ℕ × ℤ)) : Type 0 where
  pub taken : have_slots slots size entries ≡ true
  pub coefficients : (x : ℕ) → coefficient_of x (entry_terms slots size entries) ≡ coefficient_of x terms
  pub nothing : entry_constant weigh slots size entries ≡ pos 0

and_true : (a : Bool) → a ≡ true → (a && true) ≡ true
and_true a e = ap (λ (x : Bool). x && true) e

pub line_of_ints : (weights : List (ℕ × ℤ)) (forms : List CutForm) (cut : ℕ) (constant : ℤ) (entries sizes terms : List (ℕ × ℤ))
    (slots : List SlotForm) → AreEntries (weight_in weights) slots false entries terms
    → IsLine (ranking_with false weights forms) (Some (record { cut = cut; constant = constant; ints = entries; sizes = sizes }))
    slots terms constant
line_of_ints weights forms cut constant entries sizes terms slots h = record {
  taken = and_true (have_slots slots false entries) h.taken;
  coefficients = λ x. coefficient_both x (entry_terms slots false entries) []
      ∙ plus_zero (coefficient_of x (entry_terms slots false entries)) ∙ h.coefficients x;
  base = base_alone constant (entry_constant (weight_in weights) slots false entries) h.nothing;
}
  where
    plus_zero : (a : ℤ) → a +ℤ pos 0 ≡ a
    plus_zero a = omega (arith, ints)

    base_alone : (k c : ℤ) → c ≡ pos 0 → k +ℤ (c +ℤ pos 0) ≡ k
    base_alone k c e = omega (arith, ints)

pub line_of_sizes : (weights : List (ℕ × ℤ)) (forms : List CutForm) (cut : ℕ) (constant : ℤ) (entries terms : List (ℕ × ℤ))
    (slots : List SlotForm) → AreEntries (weight_in weights) slots true entries terms
    → IsLine (ranking_with true weights forms) (Some (record { cut = cut; constant = constant; ints = []; sizes = entries })) slots
    terms constant
line_of_sizes weights forms cut constant entries terms slots h = record {
  taken = h.taken;
  coefficients = h.coefficients;
  base = base_alone constant (entry_constant (weight_in weights) slots true entries) h.nothing;
}
  where
    base_alone : (k c : ℤ) → c ≡ pos 0 → k +ℤ (pos 0 +ℤ c) ≡ k
    base_alone k c e = omega (arith, ints)

pub slot_nothing : (weigh : ℕ → ℤ) (slot : SlotForm) (variable : ℕ) → IsVariable slot variable → constant_of weigh (Some slot) ≡ pos 0
slot_nothing weigh slot variable is = both slot.constant (value_of_terms weigh slot.weights) is.constant
    (ap (value_of_terms weigh) is.weights)
  where
    both : (a b : ℤ) → a ≡ pos 0 → b ≡ pos 0 → a +ℤ b ≡ pos 0
    both a b e f = omega (arith, ints)

le_true : (test : Bool) (a b : ℤ) → int_le a b ≡ test → a ≤ℤ b → int_le a b ≡ true
le_true true a b e h = e
le_true false a b e h = absurd (omega (arith, ints, e, h))

-- functions that agree everywhere agree below a number
same_int : (a b : ℤ) → a ≡ b → (int_le a b && int_le b a) ≡ true
same_int a b e = both_true (int_le a b) (int_le b a) (at_most a b e) (at_most b a (sym e))
  where
    self : (a b : ℤ) → a ≡ b → a ≤ℤ b
    self a b e = omega (arith, ints, e)

    at_most : (a b : ℤ) → a ≡ b → int_le a b ≡ true
    at_most a b e = le_true (int_le a b) a b refl (self a b e)

    both_true : (a b : Bool) → a ≡ true → b ≡ true → (a && b) ≡ true
    both_true true b e f = f
    both_true false b e f = absurd (cc)

agree_all : (n : ℕ) (f g : ℕ → ℤ) → ((x : ℕ) → f x ≡ g x) → agree_below n f g ≡ true
agree_all zero f g h = refl
agree_all (suc n) f g h = both_true (int_le (f n) (g n) && int_le (g n) (f n)) (agree_below n f g) (same_int (f n) (g n) (h n))
    (agree_all n f g h)

shown_need : (missing : DescentFault) (shown : Bool) (fault : Option LinFault) → shown ≡ true → fault ≡ None
    → need_fault missing shown fault ≡ None
shown_need missing true None e f = refl
shown_need missing false None e f = absurd (cc)
shown_need missing shown (Some fault) e f = absurd (some_not fault f)
  where
    some_not : (a : LinFault) → ◌≡◌ {A = Option LinFault} (Some a) None → ⊥
    some_not a e = absurd (cc)

need_none : (missing : DescentFault) (weigh : ℕ → ℤ) (rule : PathRule) (target : Target) (multipliers : List (ℕ × ℤ))
    → first_fault (rows_under weigh rule.rows) multipliers ≡ None
    → ((x : ℕ) → summed_coefficient (rows_under weigh rule.rows) multipliers x ≡ coefficient_of x target.terms)
    → summed_constant (rows_under weigh rule.rows) multipliers ≤ℤ target.constant → need missing weigh rule target multipliers ≡ None
need_none missing weigh rule target multipliers fault coefficients constant =
    shown_need missing (shows_target rule.vars (rows_under weigh rule.rows) target multipliers)
    (first_fault (rows_under weigh rule.rows) multipliers)
    (both_true (agree_below rule.vars (summed_coefficient (rows_under weigh rule.rows) multipliers)
    (λ (variable : ℕ). coefficient_of variable target.terms))
    (int_le (summed_constant (rows_under weigh rule.rows) multipliers) target.constant)
    (agree_all rule.vars (summed_coefficient (rows_under weigh rule.rows) multipliers)
    (λ (variable : ℕ). coefficient_of variable target.terms) coefficients)
    (at_most (summed_constant (rows_under weigh rule.rows) multipliers) target.constant constant)) fault
  where
    at_most : (a b : ℤ) → a ≤ℤ b → int_le a b ≡ true
    at_most a b h = le_true (int_le a b) a b refl h

-- both ends of a rule
pub record AreLines (ranking : Ranking) (rule : PathRule) (start finish : List (ℕ × ℤ)) (constant : ℤ) : Type 0 where
  pub first : IsLine ranking (form_at ranking.forms rule.from) rule.first start constant
  pub last : IsLine ranking (form_at ranking.forms rule.to) rule.last finish constant

taken_then : (a b : Bool) (fault other : Option DescentFault) → a ≡ true → b ≡ true → fault ≡ None → cond (a && b) fault other ≡ None
taken_then true true fault other e f h = h
taken_then true false fault other e f h = absurd (cc)
taken_then false b fault other e f h = absurd (cc)

start_then : (a : Bool) (fault other : Option DescentFault) → a ≡ true → fault ≡ None → cond a fault other ≡ None
start_then true fault other e h = h
start_then false fault other e h = absurd (cc)

fall_coefficients : (ranking : Ranking) (rule : PathRule) (start finish : List (ℕ × ℤ)) (constant : ℤ) (followed : Followed)
    → AreLines ranking rule start finish constant → IsFollowed (rows_under (weigh_of ranking) rule.rows) start finish followed
    → (x : ℕ) → summed_coefficient (rows_under (weigh_of ranking) rule.rows) followed.fall x ≡ coefficient_of x
    ((start_of ranking rule).terms ++ scaled (negsuc 0) (end_of ranking rule).terms)
fall_coefficients ranking rule start finish constant followed lines is x =
    is.coefficients x ∙ less_is (coefficient_of x start) (coefficient_of x finish) (coefficient_of x (start_of ranking rule).terms)
    (coefficient_of x (end_of ranking rule).terms) (lines.first.coefficients x) (lines.last.coefficients x)
    ∙ ap (λ (z : ℤ). coefficient_of x (start_of ranking rule).terms +ℤ z)
    (sym (coefficient_scaled x (negsuc 0) (end_of ranking rule).terms))
    ∙ sym (coefficient_both x (start_of ranking rule).terms (scaled (negsuc 0) (end_of ranking rule).terms))
  where
    less_is : (a b c d : ℤ) → c ≡ a → d ≡ b → a -ℤ b ≡ c +ℤ negsuc 0 *ℤ d
    less_is a b c d e f = omega (arith, ints)

pub weak_none : (ranking : Ranking) (rule : PathRule) (number : ℕ) (start finish : List (ℕ × ℤ)) (constant : ℤ)
    (followed : Followed) → AreLines ranking rule start finish constant → IsFollowed (rows_under (weigh_of ranking) rule.rows) start
    finish followed → pos 0 ≤ℤ followed.falls → weak_fault ranking number rule followed.fall ≡ None
weak_none ranking rule number start finish constant followed lines is falls =
    taken_then (takes_start ranking rule) (takes_end ranking rule) _ _ lines.first.taken lines.last.taken
    (need_none (NotWeak number) (weigh_of ranking) rule _ followed.fall is.fault
    (fall_coefficients ranking rule start finish constant followed lines is)
    (low (summed_constant (rows_under (weigh_of ranking) rule.rows) followed.fall) followed.falls
    (start_of ranking rule).constant (end_of ranking rule).constant constant is.constant falls lines.first.base lines.last.base))
  where
    low : (s f a b k : ℤ) → s +ℤ f ≡ pos 0 → pos 0 ≤ℤ f → a ≡ k → b ≡ k → s ≤ℤ ((a -ℤ b) -ℤ pos 0)
    low s f a b k e h p q = omega (arith, ints, e, h, p, q)

pub strict_none : (ranking : Ranking) (rule : PathRule) (number : ℕ) (start finish : List (ℕ × ℤ)) (constant : ℤ)
    (followed : Followed) → AreLines ranking rule start finish constant → IsFollowed (rows_under (weigh_of ranking) rule.rows) start
    finish followed → pos 1 ≤ℤ followed.falls → strict_fault ranking number rule followed.fall ≡ None
strict_none ranking rule number start finish constant followed lines is falls =
    taken_then (takes_start ranking rule) (takes_end ranking rule) _ _ lines.first.taken lines.last.taken
    (need_none (NotStrict number) (weigh_of ranking) rule _ followed.fall is.fault
    (fall_coefficients ranking rule start finish constant followed lines is)
    (low (summed_constant (rows_under (weigh_of ranking) rule.rows) followed.fall) followed.falls
    (start_of ranking rule).constant (end_of ranking rule).constant constant is.constant falls lines.first.base lines.last.base))
  where
    low : (s f a b k : ℤ) → s +ℤ f ≡ pos 0 → pos 1 ≤ℤ f → a ≡ k → b ≡ k → s ≤ℤ ((a -ℤ b) -ℤ pos 1)
    low s f a b k e h p q = omega (arith, ints, e, h, p, q)

pub bounded_none : (ranking : Ranking) (rule : PathRule) (number : ℕ) (start finish : List (ℕ × ℤ)) (constant : ℤ) (bound : Bound)
    → AreLines ranking rule start finish constant → IsBoundAt (rows_under (weigh_of ranking) rule.rows) start bound
    → bound.base ≤ℤ constant → bounded_fault ranking number rule bound.rows ≡ None
bounded_none ranking rule number start finish constant bound lines is most =
    start_then (takes_start ranking rule) _ _ lines.first.taken
    (need_none (NotBounded number) (weigh_of ranking) rule _ bound.rows is.fault
    (λ x. is.coefficients x ∙ sym (lines.first.coefficients x))
    (low (summed_constant (rows_under (weigh_of ranking) rule.rows) bound.rows) bound.base constant
    (start_of ranking rule).constant is.constant most lines.first.base))
  where
    low : (s b k a : ℤ) → s ≡ b → b ≤ℤ k → a ≡ k → s ≤ℤ a
    low s b k a e h p = omega (arith, ints, e, h, p)
