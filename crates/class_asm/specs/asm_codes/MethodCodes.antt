-- The code of a method's lines: its bytes and its exception table, or the first fault.
-- JVM specification, section 4.7.3 (the code array and the exception table).
use Rattle.std.specs.Prelude.{ℕ, ◌+◌, ◌≡◌, ◌<◌, ◌^◌, Bool, true, List, [], ◌∷◌, length, Option, Some, None, Ok, Err}
use Rattle.class_base.specs.declared.handler.Handler.{Handler}
use Rattle.std.specs.List.{list_any}
use Rattle.code_forms.specs.declared.insn.Insn.{Insn}
use Rattle.code_decode.specs.Encoding.{code_of}
use Rattle.code_decode.specs.Texts.{Fits}
use Rattle.asm_lines.specs.declared.fault.AsmFault.{AsmFault}
use Rattle.class_asm.specs.declared.asm_codes.code.MethodCode.{MethodCode}
use Rattle.class_asm.specs.asm_codes.Pooled.{Pooled}
use Rattle.asm_lines.specs.Statements.{Said}
use Rattle.class_asm.specs.asm_codes.Instructions.{Places, insn_in}
use Rattle.class_asm.specs.asm_codes.Places.{size_at, places_of, insns_from, table_of}
use Rattle.class_asm.specs.asm_codes.LineFaults.{first_fault}

-- an instruction, where a line has one, has bytes at a place
abbrev pub FitsAt : ℕ → Option Insn → Type 0
FitsAt pc None = Unit {0}
FitsAt pc (Some insn) = Fits pc insn

-- each instruction of the lines has bytes at its place, and the code ends at 65,535 or before
abbrev pub IsWritable : Places → ℕ → List Pooled → Type 0
IsWritable places pc [] = pc < 2 ^ 16
IsWritable places pc (x ∷ xs) = (pc < 2 ^ 16) × FitsAt pc (insn_in places x) × IsWritable places (pc + size_at pc x) xs

-- the bytes of a code, and its exception table
abbrev pub make_code : List ℕ → List Handler → MethodCode
make_code bytes table = record { bytes = bytes; table = table }

-- the code of lines without a fault, whose labels name these places
abbrev pub code_at : Places → List Pooled → MethodCode
code_at places lines = make_code (code_of (insns_from places 0 lines)) (table_of places lines)

-- the first fault where there is one, else the code
abbrev pub answered : Option AsmFault → MethodCode → Said MethodCode
answered (Some fault) code = Err fault
answered None code = Ok code

-- the code of a method's lines: its bytes and its exception table, or the first fault of the lines
unfoldable pub method_code : List Pooled → Said MethodCode
method_code lines = answered (first_fault (places_of lines) lines) (code_at (places_of lines) lines)

-- one of the lines ends the method
abbrev pub has_end : List Pooled → Bool
has_end lines = list_any (λ x. x.code.ends) lines

-- A code has at most 65,535 bytes and its table at most 65,535 entries; where a line ends the method, the code has some byte
-- (JVM specification, section 4.7.3).
pub record IsSized (ended : Bool) (code : MethodCode) : Type 0 where
  pub some : ended ≡ true → 0 < length code.bytes
  pub few : length code.bytes < 2 ^ 16
  pub table : length code.table < 2 ^ 16
