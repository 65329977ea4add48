-- The outcomes of a check, with their lines.
use Rattle.std.specs.Prelude.{ℕ, List, [], ◌∷◌, codes}
use Rattle.std.specs.Fmt.{decimal}
use Rattle.list_views.specs.FaultWords.{joined}
use Rattle.check_call.specs.declared.outcome.Outcome.{Outcome}

-- the line of an accepted certificate: `ACCEPTED` and a newline
abbrev pub accepted_line : List ℕ
accepted_line = codes "ACCEPTED\n"

-- the line of a refused certificate: `REFUSED item N: CAUSE` and a newline
abbrev pub refused_line : ℕ → List ℕ → List ℕ
refused_line item cause = joined (codes "REFUSED item " ∷ decimal item ∷ codes ": " ∷ cause ∷ codes "\n" ∷ [])

-- the outcome of a check that accepts a certificate: status 0 and its line
abbrev pub accepted : Outcome
accepted = record { status = 0; out = accepted_line }

-- the outcome of a check that refuses a certificate at an item: status 2, and the line with the cause
abbrev pub refused_at : ℕ → List ℕ → Outcome
refused_at item cause = record { status = 2; out = refused_line item cause }
