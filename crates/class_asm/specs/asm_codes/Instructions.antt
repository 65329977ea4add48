-- The instruction that a line of a method says, with its numbers and its targets in their fields.
-- JVM specification, section 6.5 (each instruction's operands; `wide`) and section 4.9.1 (switches, `newarray`).
use Rattle.std.specs.Prelude.{ℕ, ◌-◌, ◌^◌, ℤ, pos, negsuc, ◌+ℤ◌, Bool, ◌&&◌, ◌==◌, nat_lt, nat_le, List, [], ◌∷◌, length, map}
use Rattle.std.specs.Prelude.{Option, Some, None, option_map, if◌then◌else◌}
use Rattle.std.specs.Option.{option_map_or, option_and_then}
use Rattle.std.specs.Int.RustNames.{int_le}
use Rattle.code_forms.specs.declared.insn.Case.{Case}
use Rattle.code_forms.specs.declared.insn.Insn.{Insn}
use Rattle.code_forms.specs.declared.insn.Insn.TheVariants as insns
use Rattle.code_forms.specs.Cases.{is_rising}
use Rattle.code_forms.specs.Opcodes.{find_by, plain, with_byte, with_pair, with_jump, wide_local}
use Rattle.asm_lines.specs.declared.number.Number.{Number}
use Rattle.asm_lines.specs.declared.operation.Operation.{Operation}
use Rattle.asm_lines.specs.declared.operation.Operation.TheVariants.{Plain, Local, Bipush, Sipush, LoadInt, LoadString, Member}
use Rattle.asm_lines.specs.declared.operation.Operation.TheVariants.{Class, Newarray, Iinc, Jump, GotoW, Tableswitch, Lookupswitch}
use Rattle.asm_lines.specs.declared.item.Item.{Item}
use Rattle.asm_lines.specs.declared.item.Item.TheVariants as items
use Rattle.class_asm.specs.declared.asm_codes.pooled.PoolOperand.{PoolOperand}
use Rattle.class_asm.specs.asm_codes.Pooled.{Pooled}
use Rattle.asm_lines.specs.Numbers.{signed_of, pair_of, int_of}

-- ---- labels

-- the places that labels name in a method's code
abbrev pub Places : Type 0
Places = List ℕ → Option ℕ

-- the places where no label names one
abbrev pub nowhere : Places
nowhere label = None

-- the place of a label, or 0 where it has none
abbrev pub target : Places → List ℕ → ℕ
target places label = option_map_or (λ place. place) (places label) 0

-- ---- numbers

-- a number stands between two bounds, which count
abbrev pub between : ℤ → ℤ → ℤ → Bool
between low high v = int_le low v && int_le v high

-- the number as a field of one byte with a sign holds it
abbrev pub byte_value : Number → Option ℤ
byte_value n = option_and_then (λ v. if between (negsuc 127) (pos 127) v then Some v else None) (signed_of n)

-- the number as a field of two bytes with a sign holds it
abbrev pub pair_value : Number → Option ℤ
pair_value n = option_and_then (λ v. if between (negsuc 32767) (pos 32767) v then Some v else None) (signed_of n)

-- ---- instructions, where their operands have room

-- the instruction of the opcode in a table of families of instructions, with its operand
abbrev pub with_operand : List (ℕ → Insn) → ℕ → ℕ → Option Insn
with_operand table op n = option_map (λ make. make n) (find_by table op)

-- a load or a store of a local; a local of two bytes stands behind `wide` (JVM specification, 6.5.wide)
abbrev pub local_insn : ℕ → ℕ → Option Insn
local_insn op local = if nat_lt local 256 then with_operand with_byte op local else with_operand wide_local op local

-- an instruction that names a pool entry, whose number has two bytes
abbrev pub entry_insn : ℕ → ℕ → Option Insn
entry_insn op entry = if nat_lt entry 65536 then with_operand with_pair op entry else None

-- the instruction that loads a constant: `ldc`, or `ldc_w` where that is written or where the entry's number has two bytes
abbrev pub load_insn : ℕ → ℕ → Option Insn
load_insn op entry = if op == 18 && nat_lt entry 256 then Some (insns.Ldc entry) else entry_insn 19 entry

-- `invokeinterface`, which has the words of its receiver and its arguments beside the entry (JVM specification, 6.5.invokeinterface)
abbrev pub interface_insn : ℕ → ℕ → Option Insn
interface_insn entry words = if nat_lt entry 65536 && nat_lt words 256 then Some (insns.Invokeinterface entry words) else None

-- an instruction on a field or a method: `invokeinterface` for the opcode 185, else one that names its pool entry alone
abbrev pub member_insn : ℕ → ℕ → ℕ → Option Insn
member_insn op entry words = if op == 185 then interface_insn entry words else entry_insn op entry

-- `newarray` with the code of an element type, from 4 to 11 (JVM specification, 6.5.newarray)
abbrev pub array_insn : ℕ → Option Insn
array_insn code = if nat_le 4 code && nat_le code 11 then Some (insns.Newarray code) else None

-- `iinc`, behind `wide` where the local or the number has two bytes (JVM specification, 6.5.iinc, 6.5.wide)
abbrev pub increment : ℕ → ℤ → Insn
increment local value = if nat_lt local 256 && between (negsuc 127) (pos 127) value then insns.Iinc local value else insns.WideIinc
    local value

-- `iinc` with a local and a number as the line writes them, none where one of them has no room in two bytes
abbrev pub increment_insn : Number → Number → Option Insn
increment_insn local value = option_and_then (λ n. option_map (λ v. increment n v) (pair_value value)) (pair_of local)

-- a tableswitch with so many labels has at least one, and its highest key is an int
abbrev pub highest_fits : ℤ → ℕ → Bool
highest_fits low count = nat_lt 0 count && int_le (low +ℤ pos (count - 1)) (pos 2147483647)

-- a tableswitch with this lowest key and its labels' places, none where it has no label or its highest key is no int
abbrev pub table_of_low : Places → List ℕ → List (List ℕ) → ℤ → Option Insn
table_of_low places default labels low =
    if highest_fits low (length labels) then Some (insns.Tableswitch (target places default) low (map (target places) labels)) else None

-- a tableswitch as the line writes it (JVM specification, 6.5.tableswitch), none where one of its keys is no int
abbrev pub table_insn : Places → Number → List ℕ → List (List ℕ) → Option Insn
table_insn places low default labels = option_and_then (table_of_low places default labels) (int_of low)

-- a case of a lookupswitch: its key and its target
abbrev pub make_case : ℤ → ℕ → Case
make_case key target = record { key = key; target = target }

-- the cases of a lookupswitch with their labels' places, none where a key is no int
abbrev pub cases_of : Places → List (Number × List ℕ) → Option (List Case)
cases_of places [] = Some []
cases_of places (c ∷ cs) = option_and_then
    (λ key. option_map (λ cases. make_case key (target places c.1) ∷ cases) (cases_of places cs)) (int_of c.0)

-- a lookupswitch with these cases, none where their count has no room in four bytes or their keys don't rise
abbrev pub lookup_of : ℕ → List Case → Option Insn
lookup_of default cases = if nat_lt (length cases) (2 ^ 31) && is_rising cases then Some (insns.Lookupswitch default cases) else None

-- a lookupswitch as the line writes it (JVM specification, 6.5.lookupswitch), none where its keys break the rules
abbrev pub lookup_insn : Places → List ℕ → List (Number × List ℕ) → Option Insn
lookup_insn places default cases = option_and_then (lookup_of (target places default)) (cases_of places cases)

-- The instruction that a line writes, with its pool entry and its targets; none where an operand has no room in its field, or the
-- keys of a switch break the rules.
abbrev pub insn_of : Places → PoolOperand → Operation → Option Insn
insn_of places need (Plain op) = plain op
insn_of places need (Local op n) = option_and_then (local_insn op) (pair_of n)
insn_of places need (Bipush n) = option_map insns.Bipush (byte_value n)
insn_of places need (Sipush n) = option_map insns.Sipush (pair_value n)
insn_of places need (LoadInt op n) = load_insn op need.entry
insn_of places need (LoadString op word) = load_insn op need.entry
insn_of places need (Member op class name desc) = member_insn op need.entry need.words
insn_of places need (Class op class) = entry_insn op need.entry
insn_of places need (Newarray code) = array_insn code
insn_of places need (Iinc n m) = increment_insn n m
insn_of places need (Jump op label) = with_operand with_jump op (target places label)
insn_of places need (GotoW label) = Some (insns.GotoW (target places label))
insn_of places need (Tableswitch low default labels) = table_insn places low default labels
insn_of places need (Lookupswitch default cases) = lookup_insn places default cases

-- the instruction that a line says with what it names in the pool, none where the line says something else
abbrev pub item_insn : Places → Item → PoolOperand → Option Insn
item_insn places (items.Insn operation) need = insn_of places need operation
item_insn places _ need = None

-- the instruction of a line, none where it has none, or where what it names in the pool isn't there
abbrev pub insn_in : Places → Pooled → Option Insn
insn_in places x = option_and_then (item_insn places x.code.item) x.need
