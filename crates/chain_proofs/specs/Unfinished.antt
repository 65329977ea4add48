-- Proofs that are not finished: each step so far holds for its set, and steps are named that are still to come.
use Rattle.std.specs.Prelude.{◌≡◌, ℕ, suc, List, [], ◌∷◌, length, Some, None, slice_get}
use Rattle.descent.specs.declared.proof.ProofStep.{ProofStep}
use Rattle.descent.specs.declared.rules.PathRule.{PathRule}
use Rattle.descent.specs.Steps.{Given, given_first, set_of, step_fault, leaves, give}

-- a step holds for the set that it was given, and gives the sets that it leaves to later steps that none named before
pub record HoldsAt (rules : List PathRule) (number : ℕ) (given : Given) (step : ProofStep) (after : Given) : Type 0 where
  pub set : List ℕ
  pub given_set : set_of (slice_get given number) ≡ Some set
  pub holds : step_fault rules set step ≡ None
  pub gives : give number (leaves set step) given ≡ Some after

-- the steps from a number on hold one after another, each for the set that it was given, and give on what they leave
abbrev pub HoldFrom : List PathRule → ℕ → Given → List ProofStep → Given → Type 0
HoldFrom rules number given [] after = given ≡ after
HoldFrom rules number given (step ∷ rest) after = (next : Given)
    × (HoldsAt rules number given step next × HoldFrom rules (suc number) next rest after)

-- The steps hold, and the set is left to the first one that is to come: the one of the least number that is named and isn't there, or step
-- 0, which has all rules. Steps are named below some number.
pub record IsLeft (rules : List PathRule) (steps : List ProofStep) (set : List ℕ) : Type 0 where
  pub below : ℕ
  pub after : Given
  pub hold : HoldFrom rules 0 (given_first (length rules) below) steps after
  pub left : set_of (slice_get after (length steps)) ≡ Some set
