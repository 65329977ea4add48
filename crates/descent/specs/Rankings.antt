-- Forms of cuts, and what is to be shown of them on a rule.
use Rattle.std.specs.Prelude.{◌≡◌, ℕ, zero, suc, ℤ, pos, negsuc, ◌+ℤ◌, ◌-ℤ◌, ◌*ℤ◌, ◌==◌, ◌&&◌, not, Bool, true, false, List, []}
use Rattle.std.specs.Prelude.{◌∷◌, ◌++◌, Option, Some, None, is_some, if◌then◌else◌, int_le, map}
use Rattle.lin_core.specs.declared.rows.Target.{Target}
use Rattle.lin_core.specs.declared.faults.LinFault.{LinFault}
use Rattle.lin_core.specs.Combination.{summed_coefficient, summed_constant, first_fault}
use Rattle.lin_core.specs.Rows.{Row, coefficient_of}
use Rattle.lin_core.specs.Weights.{weight_in, unweighed, rows_under}
use Rattle.descent.specs.declared.faults.DescentFault.{DescentFault}
use Rattle.descent.specs.declared.faults.DescentFault.TheVariants.{NotWeak, NotStrict, NotBounded, Lin}
use Rattle.descent.specs.declared.proof.CutForm.{CutForm}
use Rattle.descent.specs.declared.rules.PathRule.{PathRule}
use Rattle.descent.specs.declared.rules.SlotForm.{SlotForm}
use Rattle.descent.specs.Valuations.{slot_constant}

-- what an order ranks by: forms of cuts, the weights of classes, and whether sizes count
pub record Ranking : Type 0 where
  pub forms : List CutForm
  pub weights : List (ℕ × ℤ)
  pub sizes : Bool

-- the weighing of an order: the listed weights of classes, and 0 for a class that isn't listed
abbrev pub weigh_of : Ranking → ℕ → ℤ
weigh_of ranking = weight_in ranking.weights

-- the form of a cut: the first of the listed forms that is for it
abbrev pub form_at : List CutForm → ℕ → Option CutForm
form_at [] cut = None
form_at (form ∷ rest) cut = if form.cut == cut then Some form else form_at rest cut

-- the slot is of this id, and of the kind: its size, or its int
abbrev pub is_slot_of : Bool → ℕ → SlotForm → Bool
is_slot_of size id slot = slot.id == id && (if size then slot.size else not slot.size)

-- the slot that tells an id's int, or its size: the first slot of the id and of this kind
abbrev pub slot_at : List SlotForm → Bool → ℕ → Option SlotForm
slot_at [] size id = None
slot_at (slot ∷ rest) size id = if is_slot_of size id slot then Some slot else slot_at rest size id

-- the multiples of ints in the form of a cut; a cut without a form has none
abbrev pub ints_of : Option CutForm → List (ℕ × ℤ)
ints_of None = []
ints_of (Some form) = form.ints

-- the multiples of sizes in the form of a cut; there are none where the order counts no sizes, or the cut has no form
abbrev pub sizes_of : Bool → Option CutForm → List (ℕ × ℤ)
sizes_of false form = []
sizes_of true None = []
sizes_of true (Some form) = form.sizes

-- the constant of a cut's form; a cut without a form has 0
abbrev pub base_of : Option CutForm → ℤ
base_of None = pos 0
base_of (Some form) = form.constant

-- terms times a number
abbrev pub scaled : ℤ → List (ℕ × ℤ) → List (ℕ × ℤ)
scaled by terms = map (λ (term : ℕ × ℤ). (term.0, by *ℤ term.1)) terms

-- the terms of a slot's form, over the variables of its rule; none without a slot
abbrev pub terms_of : Option SlotForm → List (ℕ × ℤ)
terms_of None = []
terms_of (Some slot) = slot.terms

-- the constant of a slot's form under a weighing; 0 without a slot
abbrev pub constant_of : (ℕ → ℤ) → Option SlotForm → ℤ
constant_of weigh None = pos 0
constant_of weigh (Some slot) = slot_constant weigh slot

-- multiples of ids, written over the variables of the rule whose slots these are: the terms
abbrev pub entry_terms : List SlotForm → Bool → List (ℕ × ℤ) → List (ℕ × ℤ)
entry_terms slots size [] = []
entry_terms slots size (entry ∷ rest) = scaled entry.1 (terms_of (slot_at slots size entry.0)) ++ entry_terms slots size rest

-- multiples of ids, written over the variables of the rule whose slots these are: the constant, under a weighing
abbrev pub entry_constant : (ℕ → ℤ) → List SlotForm → Bool → List (ℕ × ℤ) → ℤ
entry_constant weigh slots size [] = pos 0
entry_constant weigh slots size (entry ∷ rest) = entry.1 *ℤ constant_of weigh (slot_at slots size entry.0) +ℤ entry_constant weigh
    slots size rest

-- each id that has a multiple has a slot
abbrev pub have_slots : List SlotForm → Bool → List (ℕ × ℤ) → Bool
have_slots slots size [] = true
have_slots slots size (entry ∷ rest) = is_some (slot_at slots size entry.0) && have_slots slots size rest

-- the constant of a form's slots, without the form's own
abbrev pub beyond_base : Ranking → Option CutForm → List SlotForm → ℤ
beyond_base ranking form slots = entry_constant (weigh_of ranking) slots false (ints_of form) +ℤ entry_constant (weigh_of ranking)
    slots true (sizes_of ranking.sizes form)

-- the form of a cut, written over the variables of a rule that has these slots at the cut
abbrev pub line_of : Ranking → Option CutForm → List SlotForm → Target
line_of ranking form slots = record {
  terms = entry_terms slots false (ints_of form) ++ entry_terms slots true (sizes_of ranking.sizes form);
  constant = base_of form +ℤ beyond_base ranking form slots;
}

-- a form can be written over the variables of a rule: each id that has a multiple of its int or of its size has such a slot
abbrev pub is_taken : Ranking → Option CutForm → List SlotForm → Bool
is_taken ranking form slots = have_slots slots false (ints_of form) && have_slots slots true (sizes_of ranking.sizes form)

-- the form of the cut at which a rule starts, over the rule's variables
abbrev pub start_of : Ranking → PathRule → Target
start_of ranking rule = line_of ranking (form_at ranking.forms rule.from) rule.first

-- the form of the cut at which a rule ends, over the rule's variables
abbrev pub end_of : Ranking → PathRule → Target
end_of ranking rule = line_of ranking (form_at ranking.forms rule.to) rule.last

-- the form of the cut at which a rule starts can be written over the rule's variables
abbrev pub takes_start : Ranking → PathRule → Bool
takes_start ranking rule = is_taken ranking (form_at ranking.forms rule.from) rule.first

-- the form of the cut at which a rule ends can be written over the rule's variables
abbrev pub takes_end : Ranking → PathRule → Bool
takes_end ranking rule = is_taken ranking (form_at ranking.forms rule.to) rule.last

-- what is to be at least 0 for a form to fall by so much on a rule: its value at the start, less its value at the end, less the fall
abbrev pub fall_of : Ranking → ℤ → PathRule → Target
fall_of ranking fall rule = record {
  terms = (start_of ranking rule).terms ++ scaled (negsuc 0) (end_of ranking rule).terms;
  constant = ((start_of ranking rule).constant -ℤ (end_of ranking rule).constant) -ℤ fall;
}

-- the row that says -1 is at least 0, which no valuation meets
abbrev pub minus_one : Target
minus_one = record { terms = []; constant = negsuc 0 }

-- two functions agree on all numbers below n
abbrev pub agree_below : ℕ → (ℕ → ℤ) → (ℕ → ℤ) → Bool
agree_below zero f g = true
agree_below (suc n) f g = (int_le (f n) (g n) && int_le (g n) (f n)) && agree_below n f g

-- whether the rows show the target by the multipliers: the coefficients of all variables are equal, and the target's
-- constant is at least the sum's
abbrev pub shows_target : ℕ → List Row → Target → List (ℕ × ℤ) → Bool
shows_target vars rows target multipliers = agree_below vars (summed_coefficient rows multipliers)
    (λ (variable : ℕ). coefficient_of variable target.terms) && int_le (summed_constant rows multipliers) target.constant

-- what is missing of a row that is to be shown: the multipliers are refused, or else the row isn't shown
abbrev pub need_fault : DescentFault → Bool → Option LinFault → Option DescentFault
need_fault missing shown (Some fault) = Some (Lin fault)
need_fault missing true None = None
need_fault missing false None = Some missing

-- this fault is the refusal of the multipliers
abbrev pub refuses : DescentFault → Option LinFault → Type 0
refuses fault None = ⊥
refuses fault (Some lin) = fault ≡ Lin lin

-- the fault of a row that is to be shown of a rule, under a weighing, by multipliers of the rule's rows; none where it is shown
abbrev pub need : DescentFault → (ℕ → ℤ) → PathRule → Target → List (ℕ × ℤ) → Option DescentFault
need missing weigh rule target multipliers = need_fault missing
    (shows_target rule.vars (rows_under weigh rule.rows) target multipliers) (first_fault (rows_under weigh rule.rows) multipliers)

-- why it isn't shown that a form never rises on the rule of this number: the form takes an id that has no slot, or start minus end isn't
-- shown to be at least 0
abbrev pub weak_fault : Ranking → ℕ → PathRule → List (ℕ × ℤ) → Option DescentFault
weak_fault ranking number rule multipliers = if takes_start ranking rule && takes_end ranking rule then need (NotWeak number)
    (weigh_of ranking) rule (fall_of ranking (pos 0) rule) multipliers else Some (NotWeak number)

-- why it isn't shown that a form falls by at least 1 on the rule of this number: the form takes an id that has no slot, or start minus end
-- minus 1 isn't shown to be at least 0
abbrev pub strict_fault : Ranking → ℕ → PathRule → List (ℕ × ℤ) → Option DescentFault
strict_fault ranking number rule multipliers = if takes_start ranking rule && takes_end ranking rule then need (NotStrict number)
    (weigh_of ranking) rule (fall_of ranking (pos 1) rule) multipliers else Some (NotStrict number)

-- why it isn't shown that a form is at least 0 where the rule of this number starts: the form takes an id that has no slot, or the value
-- there isn't shown to be at least 0
abbrev pub bounded_fault : Ranking → ℕ → PathRule → List (ℕ × ℤ) → Option DescentFault
bounded_fault ranking number rule multipliers = if takes_start ranking rule then need (NotBounded number) (weigh_of ranking) rule
    (start_of ranking rule) multipliers else Some (NotBounded number)

-- why it isn't shown that the rule of this number can never be taken: its rows, where no class has a weight, don't show that -1 is at
-- least 0
abbrev pub dead_fault : ℕ → PathRule → List (ℕ × ℤ) → Option DescentFault
dead_fault number rule multipliers = need (NotStrict number) unweighed rule minus_one multipliers
