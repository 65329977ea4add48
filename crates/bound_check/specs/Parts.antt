-- What the steps of a proof are given and leave, and the parts that no step takes.
use Rattle.std.specs.Prelude.{ℕ, suc, ◌+◌, ◌-◌, nat_lt, if◌then◌else◌, List, [], ◌∷◌, length, Option, Some, None}
use Rattle.std.specs.Prelude.{slice_get, slice_set, slice_index_or}
use Rattle.descent.specs.declared.proof.ProofStep.{ProofStep}
use Rattle.descent.specs.declared.proof.ProofStep.TheVariants.{Empty, Split, Rank, Dead}
use Rattle.descent.specs.declared.proof.RankStep.{RankStep}
use Rattle.descent.specs.declared.rules.PathRule.{PathRule}
use Rattle.descent.specs.Steps.{Given, given_first, leaves, set_of}

-- ---- sets

-- what steps are given when sets are handed to those of these numbers
abbrev pub handed : List (ℕ × List ℕ) → Given → Given
handed [] given = given
handed (left ∷ rest) given = handed rest (slice_set given left.0 (Some left.1))

-- what steps are given when a step hands on what it leaves of its own set; one that was given none hands on nothing
abbrev pub given_on : ProofStep → Given → Option (List ℕ) → Given
given_on step given None = given
given_on step given (Some set) = handed (leaves set step) given

-- what steps are given when the steps from one on hand on what they leave, one after another
abbrev pub given_from : ℕ → Given → List ProofStep → Given
given_from number given [] = given
given_from number given (step ∷ rest) = given_from (suc number) (given_on step given (set_of (slice_get given number))) rest

-- the set of rules that a step of a closed proof is given
abbrev pub set_at : List PathRule → List ProofStep → ℕ → Option (List ℕ)
set_at rules steps step = set_of (slice_get (given_from 0 (given_first (length rules) (length steps)) steps) step)

-- the rank step, if a step is there and is one
abbrev pub rank_in : Option ProofStep → Option RankStep
rank_in None = None
rank_in (Some Empty) = None
rank_in (Some (Split parts steps)) = None
rank_in (Some (Rank step rest)) = Some step
rank_in (Some (Dead rule multipliers rest)) = None

-- the rank step of a number, if that step is one
abbrev pub rank_at : List ProofStep → ℕ → Option RankStep
rank_at steps step = rank_in (slice_get steps step)

-- ---- parts that no step takes

-- the count of a step behind step `number`, where `later` has the counts of the steps behind it
abbrev pub count_at : ℕ → List ℕ → ℕ → ℕ
count_at number later step = if nat_lt number step then slice_index_or later (step - suc number) 0 else 0

-- how many parts no step takes, in a split and in the steps that take its other parts
abbrev pub untaken_parts : ℕ → List ℕ → List (Option ℕ) → ℕ
untaken_parts number later [] = 0
untaken_parts number later (None ∷ steps) = 1 + untaken_parts number later steps
untaken_parts number later (Some step ∷ steps) = count_at number later step + untaken_parts number later steps

-- how many parts no step takes, in a step and in the steps that its sets are left to
abbrev pub untaken_in : ℕ → List ℕ → ProofStep → ℕ
untaken_in number later Empty = 0
untaken_in number later (Split parts steps) = untaken_parts number later steps
untaken_in number later (Rank step rest) = count_at number later rest
untaken_in number later (Dead rule multipliers rest) = count_at number later rest

-- for each step, from one on, how many parts no step takes in it and in the steps that its sets are left to
abbrev pub untaken_from : ℕ → List ProofStep → List ℕ
untaken_from number [] = []
untaken_from number (step ∷ rest) = untaken_in number (untaken_from (suc number) rest) step ∷ untaken_from (suc number) rest

-- how many parts no step takes in the step of a number and in those that its sets are left to
abbrev pub untaken_at : List ProofStep → ℕ → ℕ
untaken_at steps step = slice_index_or (untaken_from 0 steps) step 0
