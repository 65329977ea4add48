-- What the lines of a method say.
use Rattle.std.specs.Prelude.{ℕ, ◌-◌, Bool, ◌&&◌, ◌==◌, not, nat_lt, List, [], ◌∷◌, length, take, slice_index, Option, Some, None}
use Rattle.std.specs.Prelude.{Ok, Err, codes, if◌then◌else◌}
use Rattle.std.specs.Option.{option_map_or}
use Rattle.std.specs.Str.{bytes_eq}
use Rattle.code_forms.specs.Spellings.{spelling}
use Rattle.asm_lines.specs.declared.fault.AsmFault.TheVariants.{Syntax, UnknownOpcode}
use Rattle.asm_lines.specs.declared.operation.Operation.{Operation}
use Rattle.asm_lines.specs.declared.item.CatchLine.{CatchLine}
use Rattle.asm_lines.specs.declared.item.Item.{Item}
use Rattle.asm_lines.specs.declared.item.Item.TheVariants.{Nothing, Insn, Catch, Attribute, End}
use Rattle.list_views.specs.Results.{◌>>=◌}
use Rattle.asm_lines.specs.Statements.{Said, Words, next_word, no_more, is_new, attribute_line}
use Rattle.asm_lines.specs.Operations.{opcode_in, template, operands}

-- the label that a word sets, without its `:`; the word ends with `:` and has more than that
abbrev pub label_of : List ℕ → Option (List ℕ)
label_of word =
    if nat_lt (length word) 2 then None
    else (if slice_index word (length word - 1) == 58 then Some (take (length word - 1) word) else None)

-- an entry of an exception table as a listing writes it: what is caught, and the labels of its start, its end and its handler
abbrev pub make_catch : Option (List ℕ) → List ℕ → List ℕ → List ℕ → CatchLine
make_catch class from to handler = record { class = class; from = from; to = to; handler = handler }

-- the name of the class that is caught; none for `any`, which stands for everything
abbrev pub caught : List ℕ → Option (List ℕ)
caught class = if bytes_eq class (codes "any") then None else Some class

-- the line `catch NAME FROM TO HANDLER` behind its first word
unfoldable pub catch_line : ℕ → Words → Said CatchLine
catch_line line words = do
  class ← next_word line words
  from ← next_word line class.1
  to ← next_word line from.1
  handler ← next_word line to.1
  _ ← no_more line handler.1
  Ok (make_catch (caught class.0) from.0 to.0 handler.0)

-- names of instructions, each with its opcode
abbrev pub Names : Type 0
Names = List (List ℕ × ℕ)

-- an instruction: its name, and its operands behind it; a name that no instruction has is an UnknownOpcode
unfoldable pub operation_of : Names → ℕ → List ℕ → Words → Said Operation
operation_of names line word words =
    option_map_or (λ op. option_map_or (λ insn. operands line (spelling insn) words) (template op) (Err (UnknownOpcode line)))
    (opcode_in names word) (Err (UnknownOpcode line))

-- An instruction's line; one that begins with `class` begins another listing and is a fault, unless a label stands before the word.
unfoldable pub plain_item : Names → ℕ → Bool → List ℕ → Words → Said Item
plain_item names line labelled word words =
    if not labelled && bytes_eq word (codes "class") then Err (Syntax line)
    else (operation_of names line word words >>= λ operation. Ok (Insn operation))

-- the line `end` behind its word, before which no label stands
abbrev pub end_item : ℕ → Bool → Words → Said Item
end_item line labelled words = is_new line labelled >>= λ _. no_more line words >>= λ _. Ok End

-- the line `catch ..` behind its word, before which no label stands
abbrev pub catch_item : ℕ → Bool → Words → Said Item
catch_item line labelled words = is_new line labelled >>= λ _. catch_line line words >>= λ entry. Ok (Catch entry)

-- the line `attribute ..` behind its word, before which no label stands
abbrev pub attribute_item : ℕ → Bool → Words → Said Item
attribute_item line labelled words = is_new line labelled >>= λ _. attribute_line line words >>= λ attribute. Ok (Attribute attribute)

-- what a line of a method says behind its label, where it has one: nothing, the end, an entry of the exception table, an attribute
-- or an instruction
unfoldable pub item_of : Names → ℕ → Bool → Words → Said Item
item_of names line labelled [] = Ok Nothing
item_of names line labelled (word ∷ words) =
    if bytes_eq word (codes "end") then end_item line labelled words
    else (if bytes_eq word (codes "catch") then catch_item line labelled words
    else (if bytes_eq word (codes "attribute") then attribute_item line labelled words
    else plain_item names line labelled word words))
