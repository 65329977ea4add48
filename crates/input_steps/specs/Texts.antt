-- Faults of a description or of a state, at their place.
use Rattle.std.specs.Prelude.{◌≢◌, ℕ, List, Err}
use Rattle.input_text.specs.Answers.{Reader, AnswersText}
use Rattle.input_text.specs.declared.fault.DescFault.{DescFault}
use Rattle.input_text.specs.declared.fault.DescFault.TheVariants as descs
use Rattle.input_steps.specs.declared.refused.Place.{Place}
use Rattle.input_steps.specs.declared.refused.Fault.{Fault}
use Rattle.input_steps.specs.declared.refused.Fault.TheVariants as faults
use Rattle.input_steps.specs.Steps.{IsAt}

-- a fault of the input that is read at the place
abbrev pub OfInput : Place → (DescFault → Type 0) → Place → Fault → Type 0
OfInput place = IsAt {C = DescFault} (λ fault. place) faults.Desc

-- a fault of the bytes for their reader
abbrev pub IsTextFault : {A : Type 0} → Reader A → List ℕ → DescFault → Type 0
IsTextFault reader bytes fault = (fault ≢ descs.Memory) × AnswersText reader bytes (Err fault)
