-- What an instruction's line says: its name in the JVM specification (section 6.5) and its operands, by the form that the
-- table of instructions gives it.
use Rattle.std.specs.Prelude.{ℕ, pos, zero, suc, ◌==◌, nat_le, List, [], ◌∷◌, ◌++◌, Option, Some, None, option_map, Ok, Err, codes}
use Rattle.std.specs.Prelude.{if◌then◌else◌}
use Rattle.std.specs.Option.{option_map_or, option_or}
use Rattle.std.specs.Str.{bytes_eq}
use Rattle.code_forms.specs.declared.insn.Insn.{Insn}
use Rattle.code_forms.specs.declared.insn.Insn.TheVariants as insns
use Rattle.code_decode.specs.Names.{name_of}
use Rattle.code_forms.specs.Spellings as spellings
use Rattle.code_forms.specs.Spellings.{Spelling, spelling}
use Rattle.code_forms.specs.Opcodes.{find_by, plain, with_byte, with_pair, with_jump}
use Rattle.asm_lines.specs.declared.fault.AsmFault.TheVariants.{Syntax, UnknownOpcode}
use Rattle.asm_lines.specs.declared.number.Number.{Number}
use Rattle.asm_lines.specs.declared.operation.Operation.{Operation}
use Rattle.asm_lines.specs.declared.operation.Operation.TheVariants.{Plain, Local, Bipush, Sipush, LoadInt, LoadString, Member}
use Rattle.asm_lines.specs.declared.operation.Operation.TheVariants.{Class, Newarray, Iinc, Jump, GotoW, Tableswitch, Lookupswitch}
use Rattle.list_views.specs.Results.{◌>>=◌}
use Rattle.asm_lines.specs.Statements.{Said, Words, next_word, no_more, number_word, one_word}

-- ---- names

-- the instruction of the opcode, with zeros as operands, where it is the only one whose operands have that form
abbrev pub single : ℕ → Option Insn
single op =
    if op == 16 then Some (insns.Bipush (pos 0))
    else (if op == 17 then Some (insns.Sipush (pos 0))
    else (if op == 132 then Some (insns.Iinc 0 (pos 0))
    else (if op == 170 then Some (insns.Tableswitch 0 (pos 0) [])
    else (if op == 171 then Some (insns.Lookupswitch 0 [])
    else (if op == 185 then Some (insns.Invokeinterface 0 0)
    else (if op == 188 then Some (insns.Newarray 0)
    else (if op == 200 then Some (insns.GotoW 0) else None)))))))

-- the instruction of the opcode from a table of families of instructions, with zero as its operand
abbrev pub made : List (ℕ → Insn) → ℕ → Option Insn
made table op = option_map (λ make. make 0) (find_by table op)

-- the instruction of the opcode, with zeros as operands; none where listings have no such instruction
abbrev pub template : ℕ → Option Insn
template op = option_or (plain op)
    (option_or (made with_byte op) (option_or (made with_pair op) (option_or (made with_jump op) (single op))))

-- the opcode and the name of its instruction, none where listings have no such instruction
abbrev pub named : ℕ → List (List ℕ × ℕ)
named op = option_map_or (λ insn. (name_of insn, op) ∷ []) (template op) []

-- the names of the instructions whose opcodes are below this one
abbrev pub names_below : ℕ → List (List ℕ × ℕ)
names_below zero = []
names_below (suc op) = names_below op ++ named op

-- the names of all instructions
abbrev pub all_names : List (List ℕ × ℕ)
all_names = names_below 201

-- the opcode of an instruction by its name
abbrev pub opcode_in : List (List ℕ × ℕ) → List ℕ → Option ℕ
opcode_in [] word = None
opcode_in (entry ∷ names) word = if bytes_eq entry.0 word then Some entry.1 else opcode_in names word

-- ---- operands

-- the code of an element type by its name (JVM specification, 6.5.newarray)
abbrev pub kind_code : List ℕ → Option ℕ
kind_code word =
    if bytes_eq word (codes "boolean") then Some 4
    else (if bytes_eq word (codes "char") then Some 5
    else (if bytes_eq word (codes "float") then Some 6
    else (if bytes_eq word (codes "double") then Some 7
    else (if bytes_eq word (codes "byte") then Some 8
    else (if bytes_eq word (codes "short") then Some 9
    else (if bytes_eq word (codes "int") then Some 10
    else (if bytes_eq word (codes "long") then Some 11 else None)))))))

-- the one number that is left on the line
unfoldable pub one_number : ℕ → Words → Said Number
one_number line words = one_word line words >>= number_word line

-- what a constant that is loaded says: `int N` or `string WORD`
unfoldable pub load_value : ℕ → ℕ → List ℕ → List ℕ → Said Operation
load_value line op kind value =
    if bytes_eq kind (codes "int") then (number_word line value >>= λ n. Ok (LoadInt op n))
    else (if bytes_eq kind (codes "string") then Ok (LoadString op value) else Err (Syntax line))

-- the operands of ldc and ldc_w: `int N` or `string WORD`
unfoldable pub load_operation : ℕ → ℕ → Words → Said Operation
load_operation line op words = do
  kind ← next_word line words
  value ← next_word line kind.1
  _ ← no_more line value.1
  load_value line op kind.0 value.0

-- the operands of an instruction on a field or a method: `CLASS NAME DESC`
unfoldable pub member_operation : ℕ → ℕ → Words → Said Operation
member_operation line op words = do
  class ← next_word line words
  name ← next_word line class.1
  desc ← next_word line name.1
  _ ← no_more line desc.1
  Ok (Member op class.0 name.0 desc.0)

-- the operands of iinc: a local and the number that is added to it
unfoldable pub increment_operation : ℕ → Words → Said Operation
increment_operation line words = do
  local ← next_word line words
  value ← next_word line local.1
  _ ← no_more line value.1
  n ← number_word line local.0
  m ← number_word line value.0
  Ok (Iinc n m)

-- the labels that are left on the line, at least one
abbrev pub some_labels : ℕ → Words → Said Words
some_labels line [] = Err (Syntax line)
some_labels line (label ∷ labels) = Ok (label ∷ labels)

-- the operands of tableswitch: `LOW DEFAULT LABEL ..`, with at least one label
unfoldable pub table_operation : ℕ → Words → Said Operation
table_operation line words = do
  low ← next_word line words
  default ← next_word line low.1
  labels ← some_labels line default.1
  n ← number_word line low.0
  Ok (Tableswitch n default.0 labels)

-- the cases of a lookupswitch: `KEY LABEL ..`
abbrev pub cases_of : ℕ → Words → Said (List (Number × List ℕ))
cases_of line [] = Ok []
cases_of line (key ∷ []) = Err (Syntax line)
cases_of line (key ∷ label ∷ words) = number_word line key >>= λ n. cases_of line words >>= λ cases. Ok ((n, label) ∷ cases)

-- the operands of lookupswitch: `DEFAULT KEY LABEL ..`
unfoldable pub lookup_operation : ℕ → Words → Said Operation
lookup_operation line words = do
  default ← next_word line words
  cases ← cases_of line default.1
  Ok (Lookupswitch default.0 cases)

-- the operand of newarray: the name of an element type
unfoldable pub array_operation : ℕ → Words → Said Operation
array_operation line words = do
  kind ← one_word line words
  option_map_or (λ code. Ok (Newarray code)) (kind_code kind) (Err (Syntax line))

-- the operands of an instruction that has a number of one byte in the code: a constant for ldc, else a local
abbrev pub byte_operands : ℕ → ℕ → Words → Said Operation
byte_operands line op words = if op == 18 then load_operation line op words else (one_number line words >>= λ local. Ok (Local op local))

-- the operands of an instruction that has a pool entry in the code: a constant for ldc_w, a member up to the opcode 184, else a
-- class
abbrev pub pair_operands : ℕ → ℕ → Words → Said Operation
pair_operands line op words =
    if op == 19 then load_operation line op words
    else (if nat_le op 184 then member_operation line op words else (one_word line words >>= λ class. Ok (Class op class)))

-- the operand of an instruction that has a target by two bytes in the code: a label
abbrev pub jump_operands : ℕ → ℕ → Words → Said Operation
jump_operands line op words = one_word line words >>= λ label. Ok (Jump op label)

-- the operands that are written in a listing behind the name of an instruction of this form
unfoldable pub operands : ℕ → Spelling → Words → Said Operation
operands line (spellings.Plain op) words = no_more line words >>= λ _. Ok (Plain op)
operands line (spellings.Byte op n) words = byte_operands line op words
operands line (spellings.Pair op n) words = pair_operands line op words
operands line (spellings.SignedByte op v) words = one_number line words >>= λ n. Ok (Bipush n)
operands line (spellings.SignedPair op v) words = one_number line words >>= λ n. Ok (Sipush n)
operands line (spellings.Jump op target) words = jump_operands line op words
operands line (spellings.FarJump op target) words = one_word line words >>= λ label. Ok (GotoW label)
operands line (spellings.Increment op n v) words = increment_operation line words
operands line (spellings.Table op default low targets) words = table_operation line words
operands line (spellings.Lookup op default cases) words = lookup_operation line words
operands line (spellings.Interface op n count) words = member_operation line op words
operands line (spellings.Array op code) words = array_operation line words
operands line _ words = Err (UnknownOpcode line)
