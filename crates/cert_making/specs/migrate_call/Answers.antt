-- What `migrate` answers for the bytes of a certificate, of a description and of class files: as `check` does, but
-- that a valid certificate is written in form 2.
use Rattle.std.specs.Prelude.{◌≡◌, ℕ, List, Result}
use Rattle.input_steps.specs.declared.refused.Refused.{Refused}
use Rattle.check_call.specs.declared.outcome.Outcome.{Outcome}
use Rattle.check_call.specs.Answers.{SayingValid, OfBytes}
use Rattle.cert_making.specs.migrate_call.Texts.{migrated}

-- what `migrate` says of a valid case: the text in form 2 of its filled graph, its cuts and its proof
abbrev pub SaysMigrated : SayingValid
SaysMigrated case valid outcome = outcome ≡ migrated case

-- what `migrate` answers for the bytes of a certificate, of a description and of class files
abbrev pub Answers : List ℕ → List ℕ → List (List ℕ) → Result Outcome Refused → Type 0
Answers = OfBytes SaysMigrated
