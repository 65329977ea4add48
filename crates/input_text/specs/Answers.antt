-- What a reader of a JSON text answers: what the text says, or the first fault, or want of memory.
use Rattle.std.specs.Prelude.{◌≡◌, ℕ, Bool, true, false, List, Result, Ok, Err}
use Rattle.list_views.specs.Results as results
use Rattle.serde_json.specs.Data.{Data}
use Rattle.json_view.specs.Answers.{Reads}
use Rattle.json_view.specs.Located.{Located, root_of}
use Rattle.json_view.specs.declared.fault.JsonFault.{JsonFault}
use Rattle.json_view.specs.declared.fault.JsonFault.TheVariants as json
use Rattle.input_text.specs.declared.fault.DescFault.{DescFault}
use Rattle.input_text.specs.declared.fault.DescFault.TheVariants.{Json, Memory}

-- what a value with its place says, or the first fault
abbrev pub Reader : Type 0 → Type 0
Reader A = Located → Result A JsonFault

-- want of memory
abbrev pub is_memory : JsonFault → Bool
is_memory json.Memory = true
is_memory fault = false

-- the answer is what is said; want of memory may stand in its place
abbrev pub Says : {A : Type 0} → Result A JsonFault → Result A JsonFault → Type 0
Says answer said = results.Gives is_memory (λ value. value) answer said

-- a fault of JSON as a fault of descriptions
abbrev pub described : JsonFault → DescFault
described json.Memory = Memory
described fault = Json fault

-- `serde_json` reads a value of the bytes, of which the reader says this
abbrev pub SaysOf : {A : Type 0} → Reader A → List ℕ → Result A JsonFault → Type 0
SaysOf reader bytes said = (value : Data) × (Reads bytes value × (reader (root_of value) ≡ said))

-- The answer for a whole text: `serde_json` reads a value of it of which the reader says the answer; or it reads none.
abbrev pub AnswersText : {A : Type 0} → Reader A → List ℕ → Result A DescFault → Type 0
AnswersText reader bytes (Ok text) = SaysOf reader bytes (Ok text)
AnswersText reader bytes (Err (Json json.NotJson)) = (value : Data) → ¬ Reads bytes value
AnswersText reader bytes (Err (Json json.Memory)) = ⊥
AnswersText reader bytes (Err (Json fault)) = SaysOf reader bytes (Err fault)
AnswersText reader bytes (Err Memory) = Unit {0}
AnswersText reader bytes (Err fault) = ⊥
