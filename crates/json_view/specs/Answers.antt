-- What a call answers that may want memory for a fault's place.
use Rattle.std.specs.Prelude.{◌≡◌, ◌<◌, ℕ, List, length, Some, Result, Ok, Err, IsUtf8, IsErrAnd, String, string_bytes}
use Rattle.std.specs.declared.alloc.Global.{Global}
use Rattle.std.specs.Borrow.{Bor}
use Rattle.serde_json.specs.Data.{Data}
use Rattle.serde_json.specs.Read.{read}
use Rattle.serde_json.specs.View.{view as value_of}
use Rattle.serde_json.specs.declared.value.Value.{Value}
use Rattle.json_view.specs.declared.fault.JsonFault.{JsonFault}
use Rattle.json_view.specs.declared.fault.JsonFault.TheVariants.{NotJson, Memory}

-- the fault that is due, or want of memory for its place
abbrev pub StandsFor : JsonFault → JsonFault → Type 0
StandsFor Memory due = Unit {0}
StandsFor fault due = fault ≡ due

-- The answer is the one that is due, where `shows` is what a clause sees of its value. Want of memory comes
-- only in the place of another fault.
abbrev pub Answers : {T A : Type 0} → (T → A) → Result T JsonFault → Result A JsonFault → Type 0
Answers shows (Ok value) due = Ok (shows value) ≡ due
Answers shows (Err fault) due = IsErrAnd due (StandsFor fault)

-- the bytes are a text of UTF-8, and `serde_json` reads this value of it
abbrev pub Reads : List ℕ → Data → Type 0
Reads bytes value = IsUtf8 bytes × (read bytes ≡ Some value)

-- what the reading of a whole text answers; the empty text takes no memory
abbrev pub Parses : List ℕ → Result Value JsonFault → Type 0
Parses bytes (Ok value) = Reads bytes (value_of value)
Parses bytes (Err NotJson) = (value : Data) → ¬ Reads bytes value
Parses bytes (Err Memory) = 0 < length bytes
Parses bytes (Err _) = ⊥

-- the text behind a reference
abbrev pub now_of : Bor (List ℕ) → List ℕ
now_of text = text.now

-- the bytes of the text behind a reference
abbrev pub bytes_of : Bor (String Global) → List ℕ
bytes_of text = string_bytes text.now

-- a value that a clause sees as it is
abbrev pub same : {A : Type 0} → A → A
same value = value

-- an answer that has no value
abbrev pub nothing : {A : Type 0} → A → Unit {0}
nothing value = tt
