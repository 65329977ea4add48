-- What an accepted certificate says.
use Rattle.std.specs.Prelude.{◌≡◌, ℕ, List, Result, Ok, Err}
use Rattle.class_program.specs.Programs.{Program}
use Rattle.input_desc.specs.declared.desc.Desc.{Desc}
use Rattle.input_steps.specs.declared.refused.Refused.{Refused}
use Rattle.desc_steps.specs.Headline.{AllFittingEnd, AllEnd}
use Rattle.check_call.specs.declared.outcome.Outcome.{Outcome}

-- a check's result is that the certificate is accepted
abbrev pub Accepts : Result Outcome Refused → Type 0
Accepts (Ok outcome) = outcome.status ≡ 0
Accepts (Err refused) = ⊥

-- where the certificate is accepted, every state that the description fits ends
abbrev pub EndsIfAccepted : Program → Desc → Result Outcome Refused → Type 0
EndsIfAccepted p desc result = Accepts result → AllFittingEnd p desc

-- The headline: where the certificate is accepted, files and description name a program of which every fitting state ends.
abbrev pub AllEndIfAccepted : List (List ℕ) → List ℕ → Result Outcome Refused → Type 0
AllEndIfAccepted files desc result = Accepts result → AllEnd files desc
