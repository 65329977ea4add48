-- What the code of a method's lines says, line by line: a reading of the code that leans on no assembler.
-- JVM specification, section 6.5 (each instruction) and section 4.7.3 (the code array and the exception table).
use Rattle.std.specs.Prelude.{◌≡◌, Bool, ℕ, ℤ, pos, negsuc, ◌&&◌, ◌==◌, nat_lt, List, [], ◌∷◌, length, map, Option, Some, None}
use Rattle.std.specs.Prelude.{false, if◌then◌else◌}
use Rattle.std.specs.Option.{option_map_or}
use Rattle.std.specs.Str.{bytes_eq}
use Rattle.code_decode.specs.Codes.{Spells}
use Rattle.code_forms.specs.declared.insn.Case.{Case}
use Rattle.code_forms.specs.declared.insn.Insn.{Insn}
use Rattle.class_base.specs.declared.handler.Handler.{Handler}
use Rattle.code_forms.specs.Spellings as spellings
use Rattle.code_forms.specs.Spellings.{Spelling, spelling}
use Rattle.asm_lines.specs.Numbers.{signed_of, pair_of, int_of}
use Rattle.asm_lines.specs.declared.item.CatchLine.{CatchLine}
use Rattle.asm_lines.specs.declared.item.Item.{Item}
use Rattle.asm_lines.specs.declared.item.Item.TheVariants as items
use Rattle.asm_lines.specs.declared.listing.CodeLine.{CodeLine}
use Rattle.asm_lines.specs.declared.number.Number.{Number}
use Rattle.asm_lines.specs.declared.operation.Operation.{Operation}
use Rattle.asm_lines.specs.declared.operation.Operation.TheVariants.{Plain, Local, Bipush, Sipush, LoadInt, LoadString, Member}
use Rattle.asm_lines.specs.declared.operation.Operation.TheVariants.{Class, Newarray, Iinc, Jump, GotoW, Tableswitch, Lookupswitch}
use Rattle.class_asm.specs.asm_codes.Instructions.{Places, between}
use Rattle.class_asm.specs.asm_codes.Pooled.{Pooled}
use Rattle.class_asm.specs.declared.asm_codes.pooled.PoolOperand.{PoolOperand}

-- two lists are equally long, and each item of one says the item of the other at its place
abbrev pub InTurn : {A B : Type 0} → (A → B → Type 0) → List A → List B → Type 0
InTurn says [] [] = Unit {0}
InTurn says [] (y ∷ ys) = ⊥
InTurn says (x ∷ xs) [] = ⊥
InTurn says (x ∷ xs) (y ∷ ys) = says x y × InTurn says xs ys

-- ---- one instruction

-- the form of a load or a store of a local; a local of two bytes stands behind `wide` (JVM specification, 6.5.wide)
abbrev pub local_spelling : ℕ → ℕ → Spelling
local_spelling op local = if nat_lt local 256 then spellings.Byte op local else spellings.WideLocal op local

-- the form of an instruction that loads a constant: `ldc`, or `ldc_w` where that is written or where the index has two bytes
abbrev pub load_spelling : ℕ → ℕ → Spelling
load_spelling op entry = if op == 18 && nat_lt entry 256 then spellings.Byte 18 entry else spellings.Pair 19 entry

-- the form of an instruction on a field or a method: `invokeinterface` has the words of its arguments beside the index
abbrev pub member_spelling : ℕ → ℕ → ℕ → Spelling
member_spelling op entry words = if op == 185 then spellings.Interface 185 entry words else spellings.Pair op entry

-- the form of `iinc`, behind `wide` where the local or the number has two bytes (JVM specification, 6.5.iinc, 6.5.wide)
abbrev pub increment_spelling : ℕ → ℤ → Spelling
increment_spelling local v =
    if nat_lt local 256 && between (negsuc 127) (pos 127) v then spellings.Increment 132 local v else spellings.WideIncrement 132 local v

-- a case of a lookupswitch is the one that the line writes: its key is that number, and its target is the place that the label names
abbrev pub IsCase : Places → Number × List ℕ → Case → Type 0
IsCase place c case = (int_of c.0 ≡ Some case.key) × (place c.1 ≡ Some case.target)

-- An instruction of the code is the one of the line, with the numbers that the line's words are, the places that its labels name,
-- and the index and the words of its pool entry.
abbrev pub IsInsn : Places → PoolOperand → Operation → Spelling → Type 0
IsInsn place need (Plain op) s = s ≡ spellings.Plain op
IsInsn place need (Local op n) s = (local : ℕ) × (pair_of n ≡ Some local) × (s ≡ local_spelling op local)
IsInsn place need (Bipush n) s = (v : ℤ) × (signed_of n ≡ Some v) × (s ≡ spellings.SignedByte 16 v)
IsInsn place need (Sipush n) s = (v : ℤ) × (signed_of n ≡ Some v) × (s ≡ spellings.SignedPair 17 v)
IsInsn place need (LoadInt op n) s = s ≡ load_spelling op need.entry
IsInsn place need (LoadString op text) s = s ≡ load_spelling op need.entry
IsInsn place need (Member op class name desc) s = s ≡ member_spelling op need.entry need.words
IsInsn place need (Class op name) s = s ≡ spellings.Pair op need.entry
IsInsn place need (Newarray code) s = s ≡ spellings.Array 188 code
IsInsn place need (Iinc n m) s = (local : ℕ) × (v : ℤ) × (pair_of n ≡ Some local) × (signed_of m ≡ Some v)
    × (s ≡ increment_spelling local v)
IsInsn place need (Jump op label) s = (target : ℕ) × (place label ≡ Some target) × (s ≡ spellings.Jump op target)
IsInsn place need (GotoW label) s = (target : ℕ) × (place label ≡ Some target) × (s ≡ spellings.FarJump 200 target)
IsInsn place need (Tableswitch low default labels) s =
    (target : ℕ) × (key : ℤ) × (targets : List ℕ) × (place default ≡ Some target) × (int_of low ≡ Some key)
    × (map place labels ≡ map Some targets)
    × (s ≡ spellings.Table 170 target key targets)
IsInsn place need (Lookupswitch default cs) s =
    (target : ℕ) × (cases : List Case) × (place default ≡ Some target) × InTurn (IsCase place) cs cases
    × (s ≡ spellings.Lookup 171 target cases)

-- an instruction of the code is the one of the line, for some pool entry that is one the line names
abbrev pub SaysInsn : (Operation → PoolOperand → Type 0) → Places → Operation → Insn → Type 0
SaysInsn named place operation insn = (need : PoolOperand) × named operation need × IsInsn place need operation (spelling insn)

-- ---- labels

-- the place of the next instruction; behind the last one, the code's end
abbrev pub next_place : ℕ → List (ℕ × Insn) → ℕ
next_place end [] = end
next_place end (x ∷ xs) = x.0

-- the instructions that are left behind a line, which takes one where it writes an instruction
abbrev pub behind : Item → List (ℕ × Insn) → List (ℕ × Insn)
behind (items.Insn operation) (x ∷ xs) = xs
behind item insns = insns

-- a line has the label
abbrev pub is_labelled : List ℕ → CodeLine → Bool
is_labelled label code = option_map_or (bytes_eq label) code.label false

-- the place that a label names: that of the next instruction at or behind the first line that has it
abbrev pub label_place : ℕ → List (ℕ × Insn) → List CodeLine → Places
label_place end insns [] label = None
label_place end insns (code ∷ codes) label =
    if is_labelled label code then Some (next_place end insns) else label_place end (behind code.item insns) codes label

-- ---- all lines

-- a line that writes an instruction says the next one of the code; other lines say none
abbrev pub SaysLine : (Operation → Insn → Type 0) → Item → List (ℕ × Insn) → Type 0
SaysLine says (items.Insn operation) [] = ⊥
SaysLine says (items.Insn operation) (x ∷ xs) = says operation x.1
SaysLine says item insns = Unit {0}

-- the lines say the instructions of the code, one after another, and no instruction is left
abbrev pub SaysLines : (Operation → Insn → Type 0) → List CodeLine → List (ℕ × Insn) → Type 0
SaysLines says [] insns = insns ≡ []
SaysLines says (code ∷ codes) insns = SaysLine says code.item insns × SaysLines says codes (behind code.item insns)

-- the entry of the exception table that a line says, before those of the lines behind it
abbrev pub with_catch : Item → List CatchLine → List CatchLine
with_catch (items.Catch c) rest = c ∷ rest
with_catch item rest = rest

-- the entries of the exception table that the lines say, in their order
abbrev pub catches_in : List CodeLine → List CatchLine
catches_in [] = []
catches_in (code ∷ codes) = with_catch code.item (catches_in codes)

-- an entry of the exception table is the one that a `catch` line says: its places are those of the labels, and what it catches is
-- what the line names
pub record SaysEntry (caught : Option (List ℕ) → ℕ → Type 0) (place : Places) (c : CatchLine) (h : Handler) : Type 0 where
  pub start : place c.from ≡ Some h.start
  pub end : place c.to ≡ Some h.end
  pub handler : place c.handler ≡ Some h.handler
  pub class : caught c.class h.catch

-- The bytes and the exception table of a code are those that the lines say: the bytes are those of instructions, one behind the
-- other, which the lines say in their order, and the table's entries are those of the `catch` lines. `named` says which pool entry
-- an instruction names, and `caught` which class an entry of the table catches.
pub record SaysCode (named : Operation → PoolOperand → Type 0) (caught : Option (List ℕ) → ℕ → Type 0) (codes : List CodeLine)
    (bytes : List ℕ) (table : List Handler) : Type 0 where
  pub insns : List (ℕ × Insn)
  pub spelled : Spells 0 insns bytes
  pub each : SaysLines (SaysInsn named (label_place (length bytes) insns codes)) codes insns
  pub entries : InTurn (SaysEntry caught (label_place (length bytes) insns codes)) (catches_in codes) table

-- what a line names in the pool, where it is an instruction or a `catch` line, is as `named` and `caught` say
abbrev pub NamedBy : (Operation → PoolOperand → Type 0) → (Option (List ℕ) → ℕ → Type 0) → Item → Option PoolOperand → Type 0
NamedBy named caught (items.Insn operation) (Some need) = named operation need
NamedBy named caught (items.Catch c) (Some need) = caught c.class need.entry
NamedBy named caught item need = Unit {0}

-- a line together with what it names in the pool: it is named as `named` and `caught` say
abbrev pub IsNamed : (Operation → PoolOperand → Type 0) → (Option (List ℕ) → ℕ → Type 0) → Pooled → Type 0
IsNamed named caught x = NamedBy named caught x.code.item x.need
