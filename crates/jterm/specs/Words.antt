-- The words of the commands that promises name: each is a row of the table of commands.
use Rattle.std.specs.Prelude.{ℕ, List, [], ◌∷◌}
use Rattle.class_calls.specs.declared.command_rows.table.Request.TheVariants.{Prove, Check, Migrate, Bound, Loop, Its, Throws}
use Rattle.class_calls.specs.command_rows.Words.{IsCommand}

-- `prove DESC CLASS..`, with a limit on nodes or without
abbrev pub IsProve : List (List ℕ) → List ℕ → List (List ℕ) → Type 0
IsProve words desc classes = (nodes : ℕ) × IsCommand words (Prove nodes) (desc ∷ classes)

-- `check CERT DESC CLASS..`
abbrev pub IsCheck : List (List ℕ) → List ℕ → List ℕ → List (List ℕ) → Type 0
IsCheck words cert desc classes = IsCommand words Check (cert ∷ desc ∷ classes)

-- `migrate CERT DESC CLASS..`
abbrev pub IsMigrate : List (List ℕ) → List ℕ → List ℕ → List (List ℕ) → Type 0
IsMigrate words cert desc classes = IsCommand words Migrate (cert ∷ desc ∷ classes)

-- `bound BOUND CERT DESC CLASS..`
abbrev pub IsBound : List (List ℕ) → List ℕ → List ℕ → List ℕ → List (List ℕ) → Type 0
IsBound words bound cert desc classes = IsCommand words Bound (bound ∷ cert ∷ desc ∷ classes)

-- `loop CERT STATE DESC CLASS..`
abbrev pub IsLoop : List (List ℕ) → List ℕ → List ℕ → List ℕ → List (List ℕ) → Type 0
IsLoop words cert state desc classes = IsCommand words Loop (cert ∷ state ∷ desc ∷ classes)

-- `throws CERT DESC CLASS..`
abbrev pub IsThrows : List (List ℕ) → List ℕ → List ℕ → List (List ℕ) → Type 0
IsThrows words cert desc classes = IsCommand words Throws (cert ∷ desc ∷ classes)

-- `its RULES`
abbrev pub IsIts : List (List ℕ) → List ℕ → Type 0
IsIts words rules = IsCommand words Its (rules ∷ [])
