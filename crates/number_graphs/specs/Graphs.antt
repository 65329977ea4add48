-- Ways over numbered things, and cycles.
use Rattle.std.specs.Prelude.{ℕ, ◌<◌, List, [], ◌∷◌}

-- a way of one step or more, over these things between its ends
abbrev pub IsWay : (ℕ → ℕ → Type 0) → ℕ → List ℕ → ℕ → Type 0
IsWay step a [] b = step a b
IsWay step a (next ∷ way) b = step a next × IsWay step next way b

-- some way leads from one thing to another
abbrev pub Leads : (ℕ → ℕ → Type 0) → ℕ → ℕ → Type 0
Leads step a b = (way : List ℕ) × IsWay step a way b

-- a way leads back to where it starts
abbrev pub IsOnCycle : (ℕ → ℕ → Type 0) → ℕ → Type 0
IsOnCycle step a = Leads step a a

-- the least thing on a cycle
pub record IsLeastOnCycle (step : ℕ → ℕ → Type 0) (a : ℕ) : Type 0 where
  pub on : IsOnCycle step a
  pub least : (b : ℕ) → b < a → IsOnCycle step b → ⊥
