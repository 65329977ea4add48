-- What is answered for the bytes of a bound beside a certificate.
use Rattle.std.specs.Prelude.{◌≡◌, ℕ, List, Result, Ok, Err}
use Rattle.serde_json.specs.Data.{Data}
use Rattle.json_view.specs.Answers.{Reads}
use Rattle.json_view.specs.declared.fault.JsonFault.{JsonFault}
use Rattle.json_view.specs.declared.fault.JsonFault.TheVariants as json
use Rattle.input_text.specs.Answers.{SaysOf}
use Rattle.jvm_values.specs.States.{MachineState}
use Rattle.abs_cells.specs.AbstractStates.{AbstractState}
use Rattle.class_program.specs.Programs.{Program}
use Rattle.input_desc.specs.declared.desc.Desc.{Desc}
use Rattle.input_desc.specs.Descs.{IsOwnDesc}
use Rattle.input_desc.specs.Fitting.{FitsDescription}
use Rattle.input_desc.specs.Initial.{initial_of}
use Rattle.cert_check.specs.declared.refusal.Refusal.{Refusal}
use Rattle.cert_check.specs.Valid.{Case, IsValid, Tells}
use Rattle.bound_text.specs.declared.texts.BoundText.{BoundText}
use Rattle.bound_text.specs.Texts.{bound_text_of}
use Rattle.bound_check.specs.declared.bound.Bound.{Bound}
use Rattle.bound_check.specs.declared.fault.BoundFault.{BoundFault}
use Rattle.bound_check.specs.declared.fault.BoundFault.TheVariants as faults
use Rattle.bound_check.specs.declared.refusal.BoundRefusal.{BoundRefusal}
use Rattle.bound_check.specs.declared.refusal.BoundRefusal.TheVariants.{NoText, Faulty}
use Rattle.bound_check.specs.Laws.{Bounds, IsBounded}

-- a certificate is valid, the bytes say the text of a bound, and of its entries this is answered
pub record IsAnswered (case : Case) (bytes : List ℕ) (answer : Result Bound BoundFault) : Type 0 where
  pub valid : IsValid case
  pub text : BoundText
  pub says : SaysOf bound_text_of bytes (Ok text)
  pub bounds : Bounds case valid.links valid.rules text.ranks answer

-- the bytes say no text of a bound, for this fault
abbrev pub SaysNone : List ℕ → JsonFault → Type 0
SaysNone bytes json.NotJson = (value : Data) → ¬ Reads bytes value
SaysNone bytes json.Memory = ⊥
SaysNone bytes fault = SaysOf bound_text_of bytes (Err fault)

-- a certificate is valid, the bytes say the text of a bound, and this is the first fault of its entries
abbrev pub IsFaulty : Case → List ℕ → BoundFault → Type 0
IsFaulty case bytes faults.Memory = ⊥
IsFaulty case bytes fault = IsAnswered case bytes (Err fault)

-- what is answered for a certificate and the bytes of a bound: the certificate is refused; or else the bytes say no text, or its entries
-- have a fault, or this is the bound
abbrev pub Bounded : Case → List ℕ → Result (Result Bound BoundRefusal) Refusal → Type 0
Bounded case bytes (Ok (Ok bound)) = IsAnswered case bytes (Ok bound)
Bounded case bytes (Ok (Err (NoText fault))) = IsValid case × SaysNone bytes fault
Bounded case bytes (Ok (Err (Faulty fault))) = IsFaulty case bytes fault
Bounded case bytes (Err refusal) = Tells case (Err refusal)

-- ---- promises

-- every state that a description fits has a run that ends after at most the bound's value of instructions
abbrev pub AllBounded : Program → Desc → Bound → Type 0
AllBounded p desc bound = (state : MachineState) (fits : FitsDescription p desc state) → IsBounded p desc bound state fits

-- of each description of the program whose initial state is the root's, every state that the description fits has a run that ends after at
-- most the bound's value of instructions
abbrev pub OwnRunsBounded : Program → AbstractState → Bound → Type 0
OwnRunsBounded p root bound = (desc : Desc) → IsOwnDesc p desc → root ≡ initial_of p desc → AllBounded p desc bound
