-- What the answer of `bound` says of itself.
use Rattle.std.specs.Prelude.{◌≡◌, ◌≢◌, ℕ, List, Result, Err}
use Rattle.input_steps.specs.declared.refused.Refused.{Refused}
use Rattle.input_steps.specs.declared.refused.Refused.TheVariants.{Memory}
use Rattle.check_call.specs.declared.outcome.Outcome.{Outcome}
use Rattle.cert_calls.specs.bound_call.Answers.{Answers}

-- Want of memory aside, a bound, a certificate, a description and class files have one answer: one outcome, or one place and fault.
abbrev pub AnswersAreOne : Type 0
AnswersAreOne =
    (bound cert desc : List ℕ) (files : List (List ℕ)) (a b : Result Outcome Refused)
    → Answers bound cert desc files a → Answers bound cert desc files b → a ≢ Err Memory → b ≢ Err Memory → a ≡ b
