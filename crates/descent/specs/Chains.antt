-- Chains of rules: one turn after another, each from a cut to the next.
use Rattle.std.specs.Prelude.{ℕ, suc, ℤ, ◌≡◌, List, Some, slice_get}
use mathlib.Core.WellFounded.{Acc}
use Rattle.descent.specs.declared.rules.PathRule.{PathRule}
use Rattle.descent.specs.declared.rules.SlotForm.{SlotForm}
use Rattle.descent.specs.Valuations.{Valuation, IsWeighing, Meets, slot_value}

-- a turn: a rule, by its number, with a valuation
pub record Turn : Type 0 where
  pub rule : ℕ
  pub valuation : Valuation

-- the turn is one of these rules, and its valuation meets the rule
pub record IsTurn (rules : List PathRule) (turn : Turn) : Type 0 where
  pub taken : PathRule
  pub is : slice_get rules turn.rule ≡ Some taken
  pub meets : Meets taken turn.valuation

-- an id that has a slot of one kind on both sides has one value, for all weighings
abbrev pub Agree : Valuation → List SlotForm → Valuation → List SlotForm → Type 0
Agree before last after first = (weigh : ℕ → ℤ) → IsWeighing weigh → (i j : ℕ) (s t : SlotForm) → slice_get last i ≡ Some s
    → slice_get first j ≡ Some t → s.id ≡ t.id → s.size ≡ t.size → slot_value weigh before s ≡ slot_value weigh after t

-- in a chain, turn v may come right after turn u: u's rule ends at the cut at which v's starts, and the ids of that cut
-- have the same values
pub record Follows (rules : List PathRule) (u v : Turn) : Type 0 where
  pub before : IsTurn rules u
  pub after : IsTurn rules v
  pub cut : before.taken.to ≡ after.taken.from
  pub values : Agree u.valuation before.taken.last v.valuation after.taken.first

-- every turn is accessible: whatever turns come after it, one after the other, they come to an end. This gives a number of
-- turns wherever each next turn is computed
abbrev pub ChainsEnd : List PathRule → Type 0
ChainsEnd rules = (turn : Turn) → Acc (λ (v u : Turn). Follows rules u v) turn

-- there is no infinite chain
abbrev pub NoInfiniteChain : List PathRule → Type 0
NoInfiniteChain rules = (chain : ℕ → Turn) → ((n : ℕ) → Follows rules (chain n) (chain (suc n))) → ⊥
