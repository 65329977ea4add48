-- Words of private calls: sets that are given to steps, and how many steps they need.
use Rattle.std.specs.Prelude.{◌≡◌, ◌≤◌, ◌<◌, ◌+◌, ◌*◌, ℕ, zero, suc, List, [], ◌∷◌, Option, Some, None, length}
use Rattle.std.specs.Prelude.{slice_get}
use Rattle.std.specs.List.{AllByRecursion}
use Rattle.descent.specs.Steps.{Given}
use Rattle.chain_proofs.specs.Dealt.{Rises}

-- a set of rules: the numbers rise, and are those of rules
pub record IsSet (count : ℕ) (set : List ℕ) : Type 0 where
  pub rise : Rises 0 set
  pub below : AllByRecursion (λ (n : ℕ). n < count) set

-- each set that is given is one
abbrev pub AreSets : ℕ → Given → Type 0
AreSets count given = (step : ℕ) (set : List ℕ) → slice_get given step ≡ Some (Some set) → IsSet count set

-- ---- how many steps are still to come

-- A set of so many rules needs at most so many steps, its own among them: one that takes a rule away leaves a set that needs less, and so
-- do, together, the parts of one that divides it.
abbrev pub need : ℕ → ℕ
need zero = 1
need (suc n) = 3 * n + 2

abbrev pub due : Option (List ℕ) → ℕ
due None = 0
due (Some set) = need (length set)

-- what the sets of the steps from a number on need together
abbrev pub owed : ℕ → Given → ℕ
owed n [] = 0
owed zero (set ∷ rest) = due set + owed zero rest
owed (suc n) (set ∷ rest) = owed n rest

-- a step takes one from what is needed
abbrev pub IsPaid : ℕ → Given → Given → Type 0
IsPaid number given after = suc (owed (suc number) after) ≤ owed number given

-- there are steps for all that is needed
abbrev pub HasRoom : ℕ → Given → Type 0
HasRoom number given = number + owed number given < length given
