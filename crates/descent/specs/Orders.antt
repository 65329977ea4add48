-- What every order of forms keeps.
use Rattle.std.specs.Prelude.{ℕ, ℤ, pos, ◌≡◌, ◌+ℤ◌, ◌≤ℤ◌, List, Option, None}
use Rattle.descent.specs.declared.faults.DescentFault.{DescentFault}
use Rattle.descent.specs.declared.rules.PathRule.{PathRule}
use Rattle.descent.specs.Conditions.{IsRule}
use Rattle.descent.specs.Valuations.{Valuation, Meets}
use Rattle.descent.specs.Chains.{Agree}

-- what an order says of a rule's number, the rule and multipliers: the fault of a row that is to be shown, or none
abbrev pub Says : Type 0
Says = ℕ → PathRule → List (ℕ × ℤ) → Option DescentFault

-- the value that an order's form has at one end of a rule, under a valuation
abbrev pub Worth : Type 0
Worth = PathRule → Valuation → ℤ

-- a weak rule never raises the form, a strict one lowers it by at least 1, a bounded one starts at 0 or above, and from one
-- rule to the next the form keeps its value, where all ids that it takes agree
pub record OrderLaws (weak strict bounded : Says) (takes_start takes_end : PathRule → Type 0) (start finish : Worth) : Type 0 where
  pub weak_keeps : (number : ℕ) (rule : PathRule) (multipliers : List (ℕ × ℤ)) (valuation : Valuation) → IsRule rule
      → weak number rule multipliers ≡ None → Meets rule valuation → finish rule valuation ≤ℤ start rule valuation
  pub strict_falls : (number : ℕ) (rule : PathRule) (multipliers : List (ℕ × ℤ)) (valuation : Valuation) → IsRule rule
      → strict number rule multipliers ≡ None → Meets rule valuation → (finish rule valuation +ℤ pos 1) ≤ℤ start rule valuation
  pub bounded_starts : (number : ℕ) (rule : PathRule) (multipliers : List (ℕ × ℤ)) (valuation : Valuation) → IsRule rule
      → bounded number rule multipliers ≡ None → Meets rule valuation → pos 0 ≤ℤ start rule valuation
  pub weak_takes : (number : ℕ) (rule : PathRule) (multipliers : List (ℕ × ℤ)) → weak number rule multipliers ≡ None
      → takes_start rule × takes_end rule
  pub strict_takes : (number : ℕ) (rule : PathRule) (multipliers : List (ℕ × ℤ)) → strict number rule multipliers ≡ None
      → takes_start rule × takes_end rule
  pub joined : (rule next : PathRule) (before after : Valuation) → takes_end rule → takes_start next → rule.to ≡ next.from
      → Agree before rule.last after next.first → finish rule before ≡ start next after
