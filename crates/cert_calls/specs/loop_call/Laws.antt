-- What the answer of `loop` says of itself.
use Rattle.std.specs.Prelude.{◌≡◌, ◌≢◌, ℕ, List, Result, Err}
use Rattle.input_steps.specs.declared.refused.Refused.{Refused}
use Rattle.input_steps.specs.declared.refused.Refused.TheVariants.{Memory}
use Rattle.check_call.specs.declared.outcome.Outcome.{Outcome}
use Rattle.cert_calls.specs.loop_call.Answers.{Answers}

-- Want of memory aside, a certificate, a state, a description and class files have one answer: one outcome, or one place and fault.
abbrev pub AnswersAreOne : Type 0
AnswersAreOne =
    (cert state desc : List ℕ) (files : List (List ℕ)) (a b : Result Outcome Refused)
    → Answers cert state desc files a → Answers cert state desc files b → a ≢ Err Memory → b ≢ Err Memory → a ≡ b
