-- What `bound` answers for the bytes of a bound, of a certificate, of a description and of class files: as `check`
-- does, but that of a valid certificate the bound's text is read and checked.
use Rattle.std.specs.Prelude.{◌≡◌, ◌⊎◌, ℕ, List, Result, Ok, Err}
use Rattle.input_steps.specs.declared.refused.Refused.{Refused}
use Rattle.bound_check.specs.declared.bound.Bound.{Bound}
use Rattle.bound_check.specs.declared.refusal.BoundRefusal.{BoundRefusal}
use Rattle.bound_check.specs.Answers.{Bounded}
use Rattle.check_call.specs.declared.outcome.Outcome.{Outcome}
use Rattle.check_call.specs.Answers.{SayingValid, OfBytes}
use Rattle.cert_calls.specs.bound_call.Lines.{bounded, refused_for}

-- what `bound` says of a valid case: the bound that the bytes say for it, or what is first in their way
abbrev pub SaysBound : List ℕ → SayingValid
SaysBound bytes case valid outcome =
    ((bound : Bound) × (Bounded case bytes (Ok (Ok bound)) × (outcome ≡ bounded case.program.world bound)))
    ⊎ ((refusal : BoundRefusal) × (Bounded case bytes (Ok (Err refusal)) × (outcome ≡ refused_for refusal)))

-- what `bound` answers for the bytes of a bound, of a certificate, of a description and of class files
abbrev pub Answers : List ℕ → List ℕ → List ℕ → List (List ℕ) → Result Outcome Refused → Type 0
Answers bytes = OfBytes (SaysBound bytes)
