-- Where the lines of a method stand, and the places that its labels name. A place is counted in bytes from the start of
-- the code.
use Rattle.std.specs.Prelude.{ℕ, ◌+◌, ◌<◌, ◌^◌, Bool, false, List, [], ◌∷◌, ◌++◌, length, Option, Some, None, if◌then◌else◌}
use Rattle.std.specs.Option.{option_map_or, option_or}
use Rattle.std.specs.List.{filter_map}
use Rattle.std.specs.Map.{lookup}
use Rattle.std.specs.Str.{bytes_eq}
use Rattle.code_forms.specs.declared.insn.Insn.{Insn}
use Rattle.class_base.specs.declared.handler.Handler.{Handler}
use Rattle.code_decode.specs.Encoding.{plain_text}
use Rattle.code_decode.specs.Texts.{Fits}
use Rattle.asm_lines.specs.declared.item.CatchLine.{CatchLine}
use Rattle.asm_lines.specs.declared.item.Item.{Item}
use Rattle.asm_lines.specs.declared.item.Item.TheVariants.{Catch}
use Rattle.class_asm.specs.declared.asm_codes.pooled.PoolOperand.{PoolOperand}
use Rattle.class_asm.specs.asm_codes.Pooled.{Pooled}
use Rattle.class_asm.specs.asm_codes.Instructions.{Places, nowhere, target, insn_in}

-- how many bytes an instruction has at a place, none where there is no instruction
abbrev pub size_of : ℕ → Option Insn → ℕ
size_of pc None = 0
size_of pc (Some insn) = length (plain_text pc insn)

-- How many bytes a line has at a place. Targets play no part; a line without an instruction, or with a faulty one, has none.
abbrev pub size_at : ℕ → Pooled → ℕ
size_at pc x = size_of pc (insn_in nowhere x)

-- the place behind the lines, the first of which stands at a place
abbrev pub end_from : ℕ → List Pooled → ℕ
end_from pc [] = pc
end_from pc (x ∷ xs) = end_from (pc + size_at pc x) xs

-- a line has the label
abbrev pub has_label : List ℕ → Pooled → Bool
has_label label x = option_map_or (bytes_eq label) x.code.label false

-- the place of the first of the lines that has the label, where they stand from a place on
abbrev pub place_from : ℕ → List Pooled → Places
place_from pc [] label = None
place_from pc (x ∷ xs) label = if has_label label x then Some pc else place_from (pc + size_at pc x) xs label

-- the places that the labels of a method name
abbrev pub places_of : List Pooled → Places
places_of lines = place_from 0 lines

-- the place of a label by a list of labels with their places, of which the first of a label counts
abbrev pub place_in : List (List ℕ × ℕ) → Places
place_in entries label = lookup (bytes_eq label) entries

-- the places of labels, and one more label, which counts where no earlier one is the same
abbrev pub with_place : Places → List ℕ → ℕ → Places
with_place places label place other = option_or (places other) (if bytes_eq other label then Some place else None)

-- the places of labels, and the label of a line that stands at a place, where it has one
abbrev pub with_mark : Places → Option (List ℕ) → ℕ → Places
with_mark places None place = places
with_mark places (Some label) place = with_place places label place

-- every place that a label names has two bytes
abbrev pub IsNear : Places → Type 0
IsNear places = (label : List ℕ) → target places label < 2 ^ 16

-- an instruction with its place, none where there is no instruction
abbrev pub placed : ℕ → Option Insn → List (ℕ × Insn)
placed pc None = []
placed pc (Some insn) = (pc, insn) ∷ []

-- the instructions of the lines with their places, the first line standing at a place
abbrev pub insns_from : Places → ℕ → List Pooled → List (ℕ × Insn)
insns_from places pc [] = []
insns_from places pc (x ∷ xs) = placed pc (insn_in places x) ++ insns_from places (pc + size_at pc x) xs

-- an instruction, where there is one, has bytes at each of the places 0 to 3, and so with each padding
abbrev pub FitsFirst : Option Insn → Type 0
FitsFirst None = Unit {0}
FitsFirst (Some insn) = (pc : ℕ) → pc < 4 → Fits pc insn

-- an entry of an exception table: start, end, handler and what it catches (JVM specification, section 4.7.3)
abbrev pub make_handler : ℕ → ℕ → ℕ → ℕ → Handler
make_handler start end handler catch = record { start = start; end = end; handler = handler; catch = catch }

-- the entry of the exception table that a `catch` line says, with its labels' places and the pool entry of its class
abbrev pub catch_entry : Places → CatchLine → PoolOperand → Handler
catch_entry places c need = make_handler (target places c.from) (target places c.to) (target places c.handler) need.entry

-- the entry of the exception table that a line says, none where it says something else or its class isn't in the pool
abbrev pub item_entry : Places → Option PoolOperand → Item → Option Handler
item_entry places (Some need) (Catch c) = Some (catch_entry places c need)
item_entry places _ _ = None

-- the entry of the exception table that a line of the method says
abbrev pub entry_in : Places → Pooled → Option Handler
entry_in places x = item_entry places x.need x.code.item

-- the exception table of a method, in the order of the lines
abbrev pub table_of : Places → List Pooled → List Handler
table_of places lines = filter_map (entry_in places) lines
