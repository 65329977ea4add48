-- What is answered for the bytes of a text of a bound.
use Rattle.std.specs.Prelude.{ℕ, List, Result, Ok, Err}
use Rattle.serde_json.specs.Data.{Data}
use Rattle.json_view.specs.Answers.{Reads}
use Rattle.json_view.specs.declared.fault.JsonFault.{JsonFault}
use Rattle.json_view.specs.declared.fault.JsonFault.TheVariants.{NotJson, Memory}
use Rattle.input_text.specs.Answers.{SaysOf}
use Rattle.bound_text.specs.declared.texts.BoundText.{BoundText}
use Rattle.bound_text.specs.Texts.{bound_text_of}

-- what is answered for the bytes of a bound's text: `serde_json` reads a value of them that says the text, or has the fault; or it reads
-- none. Want of memory says nothing
abbrev pub AnswersText : List ℕ → Result BoundText JsonFault → Type 0
AnswersText bytes (Ok text) = SaysOf bound_text_of bytes (Ok text)
AnswersText bytes (Err NotJson) = (value : Data) → ¬ Reads bytes value
AnswersText bytes (Err Memory) = Unit {0}
AnswersText bytes (Err fault) = SaysOf bound_text_of bytes (Err fault)
