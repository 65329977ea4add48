-- What the answer of `run` says of itself.
use Rattle.std.specs.Prelude.{◌≡◌, ◌≢◌, ℕ, List, Result, Err}
use Rattle.input_steps.specs.declared.refused.Refused.{Refused}
use Rattle.input_steps.specs.declared.refused.Refused.TheVariants.{Memory}
use Rattle.class_calls.specs.run_call.Answers.{Answers}

-- Want of memory aside, so many steps, a state and class files have one answer: one line, or one place and fault.
abbrev pub AnswersAreOne : Type 0
AnswersAreOne =
    (fuel : ℕ) (state : List ℕ) (files : List (List ℕ)) (a b : Result (List ℕ) Refused)
    → Answers fuel state files a → Answers fuel state files b → a ≢ Err Memory → b ≢ Err Memory → a ≡ b
