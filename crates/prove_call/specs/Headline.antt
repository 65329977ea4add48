-- What YES says.
use Rattle.std.specs.Prelude.{◌≡◌, ℕ, List, Result, Ok, Err}
use Rattle.input_steps.specs.declared.refused.Refused.{Refused}
use Rattle.desc_steps.specs.Headline.{AllEnd}
use Rattle.prove_call.specs.declared.answer.Answer.{Answer}

-- the result of `prove` is yes
abbrev pub IsProved : Result Answer Refused → Type 0
IsProved (Ok answer) = answer.status ≡ 0
IsProved (Err refused) = ⊥

-- The headline: where the answer is yes, files and description name a program of which every fitting state ends.
abbrev pub AllEndIfYes : List (List ℕ) → List ℕ → Result Answer Refused → Type 0
AllEndIfYes files desc result = IsProved result → AllEnd files desc
