-- What the answers of `prove` say of themselves.
use Rattle.std.specs.Prelude.{◌≡◌, ◌≢◌, ℕ, List, Option, Some, None, Result, Ok, Err}
use Rattle.input_steps.specs.declared.refused.Refused.{Refused}
use Rattle.input_steps.specs.declared.refused.Refused.TheVariants.{Memory}
use Rattle.prove_call.specs.declared.answer.Answer.{Answer}
use Rattle.prove_call.specs.Answers.{Answers}

-- the place and the fault for which an answer refuses the input, or that memory is wanting, if it does
abbrev pub refusal_of : {X : Type 0} → Result X Refused → Option Refused
refusal_of (Ok answer) = None
refusal_of (Err refused) = Some refused

-- Want of memory aside, a description and class files are refused with one place and fault, whatever the limits of nodes, or never.
abbrev pub RefusalsAreOne : Type 0
RefusalsAreOne =
    (nodes others : ℕ) (desc : List ℕ) (files : List (List ℕ)) (a b : Result Answer Refused)
    → Answers nodes desc files a → Answers others desc files b → a ≢ Err Memory → b ≢ Err Memory → refusal_of a ≡ refusal_of b
