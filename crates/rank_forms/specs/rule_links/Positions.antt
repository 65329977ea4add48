-- Positions: the slots of a rule at a place of a frame.
use Rattle.std.specs.Prelude.{ℕ, ◌≡◌, ◌==◌, ◌&&◌, not, Bool, List, [], ◌∷◌, Option, Some, if◌then◌else◌, find, pos}
use Rattle.std.specs.List.{list_any}
use Rattle.descent.specs.declared.rules.PathRule.{PathRule}
use Rattle.descent.specs.declared.rules.Place.{Place}
use Rattle.descent.specs.declared.rules.SlotForm.{SlotForm}

-- two Boolean values are equal
abbrev pub same : Bool → Bool → Bool
same one other = if one then other else not other

-- two places are one: of the same frame, both of the stack or both locals, and of the same number there
abbrev pub is_place : Place → Place → Bool
is_place one other = one.frame == other.frame && (same one.stack other.stack && one.index == other.index)

-- the slot is of the kind, a size or an int, and stands at the place
abbrev pub is_at : Bool → Place → SlotForm → Bool
is_at size place slot = same slot.size size && list_any (λ (other : Place). is_place other place) slot.places

-- the first slot of the kind that stands at the place
abbrev pub slot_at : List SlotForm → Bool → Place → Option SlotForm
slot_at slots size place = find (is_at size place) slots

-- the slot is one variable alone: its coefficient is 1, and nothing is added
pub record IsVariable (slot : SlotForm) (variable : ℕ) : Type 0 where
  pub terms : slot.terms ≡ (variable, pos 1) ∷ []
  pub constant : slot.constant ≡ pos 0
  pub weights : slot.weights ≡ []

-- the slot at the place is one variable alone
abbrev pub StandsAt : List SlotForm → Bool → Place → ℕ → Type 0
StandsAt slots size place variable = (slot : SlotForm) × (slot_at slots size place ≡ Some slot) × IsVariable slot variable

-- at a place of both cuts of a rule, the variables at its start and at its end
pub record AreEnds (rule : PathRule) (size : Bool) (place : Place) (start finish : ℕ) : Type 0 where
  pub first : StandsAt rule.first size place start
  pub last : StandsAt rule.last size place finish
