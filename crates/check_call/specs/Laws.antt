-- What the answer of `check` says of itself.
use Rattle.std.specs.Prelude.{◌≡◌, ◌≢◌, ℕ, List, All, Result, Err}
use Rattle.list_views.specs.ByteLists.{IsBytes}
use Rattle.input_steps.specs.declared.refused.Refused.{Refused}
use Rattle.input_steps.specs.declared.refused.Refused.TheVariants.{Memory}
use Rattle.check_call.specs.declared.outcome.Outcome.{Outcome}
use Rattle.check_call.specs.Answers.{Answers}
use Rattle.check_call.specs.Headline.{AllEndIfAccepted}

-- Want of memory aside, a certificate, a description and class files have one answer: one outcome, or one place and fault.
abbrev pub AnswersAreOne : Type 0
AnswersAreOne =
    (cert desc : List ℕ) (files : List (List ℕ)) (a b : Result Outcome Refused)
    → Answers cert desc files a → Answers cert desc files b → a ≢ Err Memory → b ≢ Err Memory → a ≡ b

-- What the answer says is enough for the headline, where the class files are lists of bytes: the definition of the answer alone says
-- that every state that the description fits ends, if the certificate is accepted.
abbrev pub AcceptedEnds : Type 0
AcceptedEnds =
    (cert desc : List ℕ) (files : List (List ℕ)) (result : Result Outcome Refused)
    → All IsBytes files → Answers cert desc files result → AllEndIfAccepted files desc result
