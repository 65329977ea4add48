-- The faults of a method's lines that are none of their words: labels, distances, sizes.
use Rattle.std.specs.Prelude.{ℕ, ◌+◌, ◌-◌, Bool, true, false, ◌&&◌, ◌||◌, not, ◌==◌, nat_lt, nat_le, List, [], ◌∷◌, ◌++◌, map}
use Rattle.std.specs.Prelude.{count_by, Option, Some, None, is_some, if◌then◌else◌}
use Rattle.std.specs.Option.{option_map_or, option_or}
use Rattle.std.specs.List.{list_all, list_any}
use Rattle.std.specs.Str.{bytes_eq}
use Rattle.asm_lines.specs.declared.fault.AsmFault.{AsmFault}
use Rattle.asm_lines.specs.declared.fault.AsmFault.TheVariants.{UnknownLabel, DuplicateLabel, OutOfRange}
use Rattle.asm_lines.specs.declared.item.CatchLine.{CatchLine}
use Rattle.asm_lines.specs.declared.item.Item.{Item}
use Rattle.asm_lines.specs.declared.item.Item.TheVariants.{Insn, Catch}
use Rattle.asm_lines.specs.declared.operation.Operation.{Operation}
use Rattle.asm_lines.specs.declared.operation.Operation.TheVariants.{Jump, GotoW, Tableswitch, Lookupswitch}
use Rattle.class_asm.specs.asm_codes.Pooled.{Pooled}
use Rattle.class_asm.specs.asm_codes.Instructions.{Places, nowhere, target, insn_in}
use Rattle.class_asm.specs.asm_codes.Places.{size_at, has_label}

-- ---- labels

-- the labels that an instruction of a listing names
abbrev pub operation_labels : Operation → List (List ℕ)
operation_labels (Jump op label) = label ∷ []
operation_labels (GotoW label) = label ∷ []
operation_labels (Tableswitch low default labels) = default ∷ labels
operation_labels (Lookupswitch default cases) = default ∷ map (λ c. c.1) cases
operation_labels _ = []

-- the labels that an entry of the exception table names: those of its start, its end and its handler
abbrev pub catch_labels : CatchLine → List (List ℕ)
catch_labels c = c.from ∷ c.to ∷ c.handler ∷ []

-- the labels that a line names
abbrev pub item_labels : Item → List (List ℕ)
item_labels (Insn operation) = operation_labels operation
item_labels (Catch c) = catch_labels c
item_labels _ = []

-- each of these labels has a place in the method
abbrev pub knows : Places → List (List ℕ) → Bool
knows places labels = list_all (λ label. is_some (places label)) labels

-- an earlier line has the label that this line has
abbrev pub is_repeated : List Pooled → Option (List ℕ) → Bool
is_repeated before label = option_map_or (λ l. list_any (has_label l) before) label false

-- the label is one of these
abbrev pub is_among : List (List ℕ) → List ℕ → Bool
is_among labels label = list_any (bytes_eq label) labels

-- the label is among those that were seen, or it is this one
abbrev pub with_label : (List ℕ → Bool) → List ℕ → List ℕ → Bool
with_label seen label other = seen other || bytes_eq other label

-- the labels that were seen, and that of one more line where it has one
abbrev pub with_seen : (List ℕ → Bool) → Option (List ℕ) → (List ℕ → Bool)
with_seen seen None = seen
with_seen seen (Some label) = with_label seen label

-- ---- distances

-- a distance in a field with a sign leads at most `limit` bytes on, and at most one byte more back
abbrev pub is_within : ℕ → ℕ → ℕ → Bool
is_within limit pc place = nat_le (place - pc) limit && nat_le (pc - place) (limit + 1)

-- the distance from an instruction to a label has room in two bytes
abbrev pub is_near : Places → ℕ → List ℕ → Bool
is_near places pc label = is_within 32767 pc (target places label)

-- the distance from an instruction to a label has room in four bytes
abbrev pub is_far : Places → ℕ → List ℕ → Bool
is_far places pc label = is_within 2147483647 pc (target places label)

-- each distance of an instruction at a place has room in its field
abbrev pub reaches : Places → ℕ → Operation → Bool
reaches places pc (Jump op label) = is_near places pc label
reaches places pc (GotoW label) = is_far places pc label
reaches places pc (Tableswitch low default labels) = is_far places pc default && list_all (is_far places pc) labels
reaches places pc (Lookupswitch default cases) = is_far places pc default && list_all (λ c. is_far places pc c.1) cases
reaches places pc _ = true

-- ---- what is out of range

-- the code passes 65,535 bytes with an instruction of this size at a place (JVM specification, section 4.7.3, code_length)
abbrev pub passes : ℕ → ℕ → Bool
passes pc size = nat_le pc 65535 && nat_lt 65535 (pc + size)

-- an instruction is out of range: an operand or a distance has no room, or the code passes its most bytes with it
abbrev pub operation_is_out : Places → ℕ → Bool → ℕ → Operation → Bool
operation_is_out places pc fits size operation = not fits || not (reaches places pc operation) || passes pc size

-- a line says an entry of the exception table
abbrev pub is_catch : Item → Bool
is_catch (Catch c) = true
is_catch _ = false

-- how many entries of the exception table the lines say
abbrev pub entries_of : List Pooled → ℕ
entries_of lines = count_by (λ x. is_catch x.code.item) lines

-- an entry of the exception table is out of range: its range is empty, or 65,535 entries stand before it
abbrev pub catch_is_out : Places → ℕ → CatchLine → Bool
catch_is_out places entries c = nat_le (target places c.to) (target places c.from) || nat_le 65535 entries

-- what a line says is out of range; lines other than instructions and entries of the exception table never are
abbrev pub item_is_out : Places → ℕ → ℕ → Bool → ℕ → Item → Bool
item_is_out places entries pc fits size (Insn operation) = operation_is_out places pc fits size operation
item_is_out places entries pc fits size (Catch c) = catch_is_out places entries c
item_is_out places entries pc fits size _ = false

-- a line is out of range: what it needs of the pool isn't there, what it says is out of range, or it ends an empty code
abbrev pub is_out : Places → ℕ → ℕ → Bool → ℕ → Pooled → Bool
is_out places entries pc fits size x = not (is_some x.need) || item_is_out places entries pc fits size x.code.item
    || (x.code.ends && pc == 0)

-- ---- the first fault

-- the fault of a line: a label of its instruction that the method doesn't have, a label that an earlier line has too, or what is
-- out of range, in this order
abbrev pub fault_of : Places → Bool → ℕ → ℕ → Bool → ℕ → Pooled → Option AsmFault
fault_of places repeated entries pc fits size x =
    if not (knows places (item_labels x.code.item)) then Some (UnknownLabel x.code.line)
    else (if repeated then Some (DuplicateLabel x.code.line)
    else (if is_out places entries pc fits size x then Some (OutOfRange x.code.line) else None))

-- the fault of a line that stands at a place behind other lines
abbrev pub line_fault : Places → List Pooled → ℕ → Pooled → Option AsmFault
line_fault places before pc x =
    fault_of places (is_repeated before x.code.label) (entries_of before) pc (is_some (insn_in nowhere x)) (size_at pc x) x

-- the first fault of the lines, which stand at a place behind other lines
abbrev pub first_fault_from : Places → List Pooled → ℕ → List Pooled → Option AsmFault
first_fault_from places before pc [] = None
first_fault_from places before pc (x ∷ xs) = option_or (line_fault places before pc x)
    (first_fault_from places (before ++ x ∷ []) (pc + size_at pc x) xs)

-- the first fault of all lines of a method
abbrev pub first_fault : Places → List Pooled → Option AsmFault
first_fault places lines = first_fault_from places [] 0 lines
