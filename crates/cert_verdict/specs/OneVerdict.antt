-- A certificate has one verdict.
use Rattle.std.specs.Prelude.{◌≡◌, ◌≢◌, Result, Err}
use Rattle.cert_check.specs.declared.refusal.Refusal.{Refusal}
use Rattle.cert_check.specs.declared.refusal.Refusal.TheVariants.{Memory}
use Rattle.cert_check.specs.Valid.{Case, Tells}

-- a certificate is valid, or it has one first item that fails, with one cause, and never both. Want of memory is left aside
abbrev pub VerdictsAreOne : Type 0
VerdictsAreOne =
    (case : Case) (a b : Result (Unit {0}) Refusal) → Tells case a → Tells case b → a ≢ Err Memory → b ≢ Err Memory → a ≡ b
