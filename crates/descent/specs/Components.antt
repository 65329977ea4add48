-- The classes of rules that reach each other.
use Rattle.std.specs.Prelude.{ℕ, ◌≡◌, ◌<◌, ◌≤◌, List, [], ◌∷◌, length, Some, IsTrue, slice_get}
use Rattle.descent.specs.declared.rules.PathRule.{PathRule}
use Rattle.descent.specs.Splits.{is_followed, place_in, stands_in}

-- from one rule over these rules to a last one, each rule being followed by the next
abbrev pub IsWay : List PathRule → ℕ → List ℕ → ℕ → Type 0
IsWay rules rule [] goal = rule ≡ goal
IsWay rules rule (next ∷ way) goal = IsTrue (is_followed rules rule next) × IsWay rules next way goal

-- a rule reaches another in some number of steps, none among them
abbrev pub Reaches : List PathRule → ℕ → ℕ → Type 0
Reaches rules rule goal = (way : List ℕ) × IsWay rules rule way goal

-- the classes: each rule stands in exactly one, and nothing else does; none is empty; rules of one class reach each other;
-- no rule is followed by one of an earlier class, so rules that reach each other are in one class
pub record AreClasses (rules : List PathRule) (classes : List (List ℕ)) : Type 0 where
  pub each : (rule : ℕ) → rule < length rules → (n : ℕ) × (place_in classes rule ≡ Some n)
  pub only : (rule : ℕ) → IsTrue (stands_in classes rule) → rule < length rules
  pub full : (n : ℕ) (class : List ℕ) → slice_get classes n ≡ Some class → 0 < length class
  pub joined : (rule other n : ℕ) → place_in classes rule ≡ Some n → place_in classes other ≡ Some n → Reaches rules rule other
  pub forward : (rule next n m : ℕ) → IsTrue (is_followed rules rule next) → place_in classes rule ≡ Some n
      → place_in classes next ≡ Some m → n ≤ m
