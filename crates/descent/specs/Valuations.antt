-- Valuations of a rule's variables. A variable stands for a whole number and multiples of class weights; so it has a value
-- for every weighing of the classes.
use Rattle.std.specs.Prelude.{ℕ, ℤ, pos, ◌≤ℤ◌, ◌+ℤ◌, List}
use Rattle.lin_core.specs.Rows.{value_of_terms, AllHold}
use Rattle.lin_core.specs.Weights.{rows_under}
use Rattle.descent.specs.declared.rules.PathRule.{PathRule}
use Rattle.descent.specs.declared.rules.SlotForm.{SlotForm}

-- what a variable of a rule stands for: a whole number, and multiples of class weights, each beside its class's number
pub record Amount : Type 0 where
  pub number : ℤ
  pub multiples : List (ℕ × ℤ)

-- a valuation gives each variable, by its number, what it stands for
abbrev pub Valuation : Type 0
Valuation = ℕ → Amount

-- a weighing gives each class, by its number, a weight of at least 0
abbrev pub IsWeighing : (ℕ → ℤ) → Type 0
IsWeighing weigh = (class : ℕ) → pos 0 ≤ℤ weigh class

-- the number that each variable has under a weighing: its own number, and its multiples times the weights of their classes
abbrev pub numbers_under : (ℕ → ℤ) → Valuation → ℕ → ℤ
numbers_under weigh valuation variable = (valuation variable).number +ℤ value_of_terms weigh (valuation variable).multiples

-- a valuation meets a rule: under every weighing all rows of the rule hold for the variables' numbers
abbrev pub Meets : PathRule → Valuation → Type 0
Meets rule valuation = (weigh : ℕ → ℤ) → IsWeighing weigh → AllHold (numbers_under weigh valuation) (rows_under weigh rule.rows)

-- the constant of a slot's form under a weighing: the slot's own number, and its multiples of class weights
abbrev pub slot_constant : (ℕ → ℤ) → SlotForm → ℤ
slot_constant weigh slot = slot.constant +ℤ value_of_terms weigh slot.weights

-- the int or the size that a slot's id has under a valuation and a weighing
abbrev pub slot_value : (ℕ → ℤ) → Valuation → SlotForm → ℤ
slot_value weigh valuation slot = value_of_terms (numbers_under weigh valuation) slot.terms +ℤ slot_constant weigh slot
