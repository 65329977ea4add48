-- What one call of the check says of the whole walk.
use Rattle.std.specs.Prelude.{ℕ, ◌≡◌, Bool, true, false, List, ◌∷◌, Option, Some, None, Result, Ok, Err, if◌then◌else◌}
use Rattle.descent.specs.declared.faults.StepFault.{StepFault}
use Rattle.descent.specs.declared.faults.StepFault.TheVariants.{At, Memory}
use Rattle.descent.specs.Steps.{Given, give}

-- one set more is given or not, whatever comes after it
abbrev pub Gives : ℕ → Option (ℕ × List ℕ) → Bool → Given → Given → Type 0
Gives number None done old new = (more : List (ℕ × List ℕ)) → give number more old ≡ (if done then give number more new else None)
Gives number (Some left) done old new = (more : List (ℕ × List ℕ))
    → give number (left ∷ more) old ≡ (if done then give number more new else None)

-- all sets of a step are given or not
abbrev pub IsHanded : Bool → Option Given → Given → Type 0
IsHanded true gave after = gave ≡ Some after
IsHanded false gave after = gave ≡ None

-- what an answer says of a step, after which the walk goes on: there is no fault yet, or the whole has this fault
abbrev pub GoesOn : Result (Unit {0}) StepFault → Option StepFault → Option StepFault → Type 0
GoesOn (Ok done) whole rest = whole ≡ rest
GoesOn (Err Memory) whole rest = Unit {0}
GoesOn (Err (At step broken)) whole rest = whole ≡ Some (At step broken)
