-- What the answer of `migrate` says of itself, and of that of `check`.
use Rattle.std.specs.Prelude.{◌≡◌, ◌≢◌, ◌↔◌, ℕ, List, Result, Ok, Err}
use Rattle.input_steps.specs.declared.refused.Refused.{Refused}
use Rattle.input_steps.specs.declared.refused.Refused.TheVariants.{At, Memory}
use Rattle.input_steps.specs.declared.refused.Place.{Place}
use Rattle.input_steps.specs.declared.refused.Fault.{Fault}
use Rattle.check_call.specs.declared.outcome.Outcome.{Outcome}
use Rattle.check_call.specs.Answers as check
use Rattle.check_call.specs.Lines.{accepted}
use Rattle.cert_making.specs.migrate_call.Answers.{Answers}

-- Want of memory aside, a certificate, a description and class files have one answer: one outcome, or one place and fault.
abbrev pub AnswersAreOne : Type 0
AnswersAreOne =
    (cert desc : List ℕ) (files : List (List ℕ)) (a b : Result Outcome Refused)
    → Answers cert desc files a → Answers cert desc files b → a ≢ Err Memory → b ≢ Err Memory → a ≡ b

-- `migrate` answers with status 0 for these bytes
pub record Migrates (cert desc : List ℕ) (files : List (List ℕ)) : Type 0 where
  pub outcome : Outcome
  pub done : outcome.status ≡ 0
  pub answer : Answers cert desc files (Ok outcome)

-- There is a new certificate exactly where the old one is accepted; every other answer of `migrate` is that of
-- `check`.
pub record AnswersAreThoseOfCheck (cert desc : List ℕ) (files : List (List ℕ)) : Type 0 where
  pub done : Migrates cert desc files ↔ check.Answers cert desc files (Ok accepted)
  pub refused : (outcome : Outcome) → outcome.status ≡ 2 → Answers cert desc files (Ok outcome) ↔ check.Answers cert desc files (Ok outcome)
  pub at : (place : Place) (fault : Fault) → Answers cert desc files (Err (At place fault))
      ↔ check.Answers cert desc files (Err (At place fault))

-- `migrate` gives a new certificate exactly where `check` accepts the old one, and refuses what `check` refuses
abbrev pub MigratesWhatIsAccepted : Type 0
MigratesWhatIsAccepted = (cert desc : List ℕ) (files : List (List ℕ)) → AnswersAreThoseOfCheck cert desc files
